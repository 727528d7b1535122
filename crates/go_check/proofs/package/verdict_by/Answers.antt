use Rattle.std.proofs.Common.{◌≡◌, map, sym, subst}
use Rattle.std.proofs.lemmas.Result.{IfOk-weaker}
use Rattle.go_module.specs.Modules.Module.{package_view}
use Rattle.go_module.specs.Places.{placed_by}
use Rattle.go_report.specs.Phases.{IsVerdict}
use Rattle.go_report.specs.Report.{refused, verdict_view}
use Rattle.go_model.specs.Naming.{names_in}
use Rattle.go_check.specs.Packages.Book.{denotes_by}
use Rattle.go_check.specs.Packages.Verdicts.{IsAccepting}
use Rattle.go_check.proofs.VerdictLemmas.{refused_values, sound_verdict}
use Rattle.go_check.proofs.package.verdict_by.Goals as goal

pub returns-then-breaks_none-clause-verdict : goal.returns-then-breaks_none-clause-verdict
returns-then-breaks_none-clause-verdict c =
    let p = package_view c.args.own.now in
    let judge = c.args.book.now.judge in
    IfOk-weaker c.accept.result _ _
    (λ verdict accepts m k before headers outline names known walked breaks.
    let accepting = subst (λ o. IsAccepting o k p (denotes_by judge) (names_in m k p) headers (verdict_view verdict)) outline (accepts (names_in m k p) headers k known walked) in
    sound_verdict m k p before headers (denotes_by judge) c.args.list.now (verdict_view verdict) breaks (c.breaks_none.ensures.none c.if-breaks_none.true) (λ i id. (names i).denotes id.0) accepting)
    c.accept.ensures.verdict

pub returns-in_ok-placed_list-clause-verdict : goal.returns-in_ok-placed_list-clause-verdict
returns-in_ok-placed_list-clause-verdict c = λ m k before headers outline names known walked breaks.
    let p = package_view c.args.own.now in
    let list = c.args.list.now in
    let placed : c.in_ok-placed_list.field-0.items ≡ map (placed_by p) list = c.in_ok-placed_list.ensures in
    subst (λ bs. IsVerdict m k p before (refused bs) headers) (sym placed) (refused_values m k p before headers list breaks (λ e. c.breaks_none.ensures.some c.if-breaks_none.false e))
