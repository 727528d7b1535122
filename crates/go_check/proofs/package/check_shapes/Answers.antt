use Rattle.std.proofs.Common.{◌≡◌, ◌∙◌, [], List, Some, map, sym, ap, subst}
use Rattle.std.specs.Prelude.{slice_get}
use Rattle.std.proofs.lemmas.Result.{IfOk-weaker}
use Rattle.go_module.specs.declared.scopes.Scopes.{Scopes}
use Rattle.go_module.specs.Modules.Module.{module_view, package_view}
use Rattle.go_module.specs.Places.{placed_by}
use Rattle.go_report.specs.Phases.{BreaksShapes, IsVerdict}
use Rattle.go_report.specs.Report.{refused}
use Rattle.go_judge.specs.HeadersView.{headers_view}
use Rattle.go_decl.proofs.ListLemmas.{viewed_at}
use Rattle.go_check.proofs.NamesLemmas.{get_at}
use Rattle.go_check.proofs.VerdictLemmas.{refused_shapes, shapes_here}
use Rattle.go_check.proofs.package.check_shapes.Goals as goal

pub returns-then-breaks_none-clause-verdict : goal.returns-then-breaks_none-clause-verdict
returns-then-breaks_none-clause-verdict g c =
    let «module» = c.args.book.now.judge.«module».now in
    let scopes = c.args.book.now.judge.scopes.now in
    let k = c.args.place in
    let own = package_view c.index-own.result.now in
    let list = c.in_ok-list.list.items in
    let here = viewed_at package_view «module».packages.items k c.index-own.result.now c.requires.within c.index-own.ensures in
    let scope : slice_get scopes k ≡ Some c.index.result.now =
    subst (λ (l : List Scopes). slice_get l k ≡ Some c.index.result.now) (sym c.requires.scopes) (get_at c.args.names.now.scopes.items k c.index.result.now c.requires.scoped c.index.ensures) in
    let none : list ≡ [] = sym c.deref.ensures.value ∙ c.breaks_none.ensures.none c.if-breaks_none.true in
    IfOk-weaker c.check_values.result _ _
    (λ verdict given p at outline names sound.
    let same : own ≡ p = cc (here, at) in
    let found = shapes_here «module» scopes k p own c.index.result.now list scope same names sound c.in_ok-list.ensures in
    given p at outline names (subst (BreaksShapes (module_view «module») k p) none found))
    c.check_values.ensures.verdict

pub returns-clause-verdict : goal.returns-clause-verdict
returns-clause-verdict g c = λ p at outline names sound.
    let «module» = c.args.book.now.judge.«module».now in
    let scopes = c.args.book.now.judge.scopes.now in
    let k = c.args.place in
    let before = headers_view c.args.book.now.judge.headers in
    let own = package_view c.index-own.result.now in
    let list = c.in_ok-list.list.items in
    let here = viewed_at package_view «module».packages.items k c.index-own.result.now c.requires.within c.index-own.ensures in
    let same : own ≡ p = cc (here, at) in
    let scope : slice_get scopes k ≡ Some c.index.result.now =
    subst (λ (l : List Scopes). slice_get l k ≡ Some c.index.result.now) (sym c.requires.scopes) (get_at c.args.names.now.scopes.items k c.index.result.now c.requires.scoped c.index.ensures) in
    let found = shapes_here «module» scopes k p own c.index.result.now list scope same names sound c.in_ok-list.ensures in
    let placed : c.in_ok-placed_list.field-0.items ≡ map (placed_by p) list =
    c.in_ok-placed_list.ensures ∙ ap (map (placed_by own)) c.deref-else-breaks_none.ensures.value ∙ ap (λ q. map (placed_by q) list) same in
    subst (λ bs. IsVerdict (module_view «module») k p before (refused bs) before) (sym placed)
    (refused_shapes (module_view «module») k p before list found (λ e. c.breaks_none.ensures.some c.if-breaks_none.false (c.deref.ensures.value ∙ e)))
