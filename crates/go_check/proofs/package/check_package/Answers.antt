use Rattle.std.proofs.Common.{◌≡◌, ◌∙◌, Some, true, false, map, sym, ap, subst, arith}
use Rattle.std.specs.Option.{option_map_or}
use Rattle.std.proofs.lemmas.Result.{IfOk-weaker}
use Rattle.go_module.specs.Modules.Module.{module_view, package_view}
use Rattle.go_module.specs.Places.{placed_by}
use Rattle.go_report.specs.Phases.{IsVerdict}
use Rattle.go_report.specs.Report.{refused}
use Rattle.go_judge.specs.HeadersView.{headers_view}
use Rattle.go_scope.specs.Collecting.{IsCollected}
use Rattle.go_check.specs.Packages.Names.{IsBrokenAt, is_sound, sound_at}
use Rattle.go_decl.proofs.ListLemmas.{viewed_at}
use Rattle.go_check.proofs.BookLemmas.{names_are, sound_there, there_at}
use Rattle.go_check.proofs.NamesLemmas.{get_at}
use Rattle.go_check.proofs.ResultLemmas.{if_ok_any}
use Rattle.go_check.proofs.VerdictLemmas.{refused_names}
use Rattle.go_check.proofs.package.check_package.Goals as goal

-- names that are sound have their scopes
pub sound_here : (g : _) (c : goal.After-check_shapes-arg-in-Sound-2-1 g) → sound_at c.args.names.now.verdicts.items c.args.place ≡ true
sound_here g c =
    let verdict = get_at c.args.names.now.verdicts.items c.args.place c.index.result.now (omega (arith, c.requires.within, c.requires.names.verdicts_length)) c.index.ensures in
    ap (λ o. option_map_or is_sound o false) (verdict ∙ ap Some c.in-Sound.is)

pub collected_here : (g : _) (c : goal.After-check_shapes-arg-in-Sound-2-1 g) → IsCollected (module_view c.args.book.now.judge.«module».now) c.args.place c.args.book.now.judge.scopes.now
collected_here g c = subst (IsCollected (module_view c.args.book.now.judge.«module».now) c.args.place) (sym c.requires.scopes) (c.requires.names.sound c.args.place (sound_here g c))

pub check_shapes-requires-clause-there : goal.check_shapes-requires-clause-there
check_shapes-requires-clause-there g c = there_at c.args.book.now.judge.«module».now c.args.place c.args.book.now.judge.scopes.now (collected_here g c)

pub returns-in-Sound-clause-verdict : goal.returns-in-Sound-clause-verdict
returns-in-Sound-clause-verdict g c =
    let m = module_view c.args.book.now.judge.«module».now in
    let scopes = c.args.book.now.judge.scopes.now in
    let is = collected_here g c.before in
    IfOk-weaker c.check_shapes.result _ _
    (λ verdict given p at. given p at c.requires.outline (names_are c.args.book.now.judge.«module».now c.args.place scopes is p at) (sound_there c.args.book.now.judge.«module».now c.args.place scopes is p at))
    c.check_shapes.ensures.verdict

pub returns-in-Sound-clause-sound : goal.returns-in-Sound-clause-sound
returns-in-Sound-clause-sound g c = if_ok_any c.check_shapes.result _ (λ verdict accepted. sound_here g c.before)

pub returns-in_ok-placed_list-in-Broken-clause-verdict : goal.returns-in_ok-placed_list-in-Broken-clause-verdict
returns-in_ok-placed_list-in-Broken-clause-verdict g c = λ p there.
    let m = module_view c.args.book.now.judge.«module».now in
    let k = c.args.place in
    let before = headers_view c.args.book.now.judge.headers in
    let own = package_view c.index-own.result.now in
    let list = c.in-Broken.list.items in
    let at = viewed_at package_view c.args.book.now.judge.«module».now.packages.items k c.index-own.result.now c.requires.within c.index-own.ensures in
    let same : own ≡ p = cc (at, there) in
    let verdict = get_at c.args.names.now.verdicts.items k c.index.result.now (omega (arith, c.requires.within, c.requires.names.verdicts_length)) c.index.ensures in
    let broken = subst (IsBrokenAt m k) c.in-Broken.is (c.requires.names.broken k c.index.result.now verdict) in
    let placed : c.in_ok-placed_list-in-Broken.field-0.items ≡ map (placed_by p) list =
    c.in_ok-placed_list-in-Broken.ensures ∙ ap (map (placed_by own)) c.deref.ensures.value ∙ ap (λ q. map (placed_by q) list) same in
    subst (λ bs. IsVerdict m k p before (refused bs) before) (sym placed) (refused_names m k p before list there broken)

pub returns-in-Unasked-clause-verdict : goal.returns-in-Unasked-clause-verdict
returns-in-Unasked-clause-verdict g c = λ p there.
    let verdict = get_at c.args.names.now.verdicts.items c.args.place c.index.result.now (omega (arith, c.requires.within, c.requires.names.verdicts_length)) c.index.ensures in
    absurd (c.requires.names.unasked c.args.place p (verdict ∙ ap Some c.in-Unasked.is) there (c.requires.imports p there))
