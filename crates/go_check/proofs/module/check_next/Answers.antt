use Rattle.std.proofs.Common.{◌≡◌, ◌∙◌, Some, sym, ap, subst}
use Rattle.std.specs.Prelude.{slice_get}
use Rattle.std.specs.List.{list_all}
use Rattle.go_graph.specs.Graph.{is_marked}
use Rattle.go_module.specs.declared.module.Module.{Module}
use Rattle.go_module.specs.Modules.Module.{PackageData, module_view, package_view}
use Rattle.go_report.specs.Phases.{IsVerdict, imports_accepted}
use Rattle.go_report.specs.Report.{skipped, verdict_view}
use Rattle.go_judge.specs.HeadersView.{headers_view}
use Rattle.go_check.specs.declared.rulebook.Rulebook.{Rulebook}
use Rattle.go_check.specs.Packages.Names.{ImportsSound}
use Rattle.go_check.specs.Packages.State.{state_view}
use Rattle.go_decl.proofs.HonestHeaders.{honest_same}
use Rattle.go_decl.proofs.ListLemmas.{viewed_at}
use Rattle.go_check.proofs.ResultLemmas.{four_on_ok}
use Rattle.go_check.proofs.StateLemmas.{front_checks, front_skips, imports_sound, next_state}
use Rattle.go_check.proofs.module.check_next.Goals as goal

pub check_package-requires-clause-imports : goal.check_package-requires-clause-imports
check_package-requires-clause-imports g c = λ q there.
    let whole = c.args.module.now in
    let p = package_view c.index-own.result.now in
    let at = viewed_at package_view whole.packages.items c.args.place c.index-own.result.now c.requires.within c.index-own.ensures in
    let here : slice_get (module_view whole).packages c.args.place ≡ Some q = subst (λ (x : Module). slice_get (module_view x).packages c.args.place ≡ Some q) c.requires.state.over there in
    let same : p ≡ q = cc (at, here) in
    let asked : list_all (is_marked c.deref.result.now) c.deref-2.result.now ≡ imports_accepted c.args.state.now.marks.items p = (λ i. list_all (is_marked (c.deref.ensures.value i)) (c.deref-2.ensures.value i)) in
    let accepted = sym asked ∙ sym c.imports_accepted.ensures ∙ c.if-imports_accepted.true in
    subst (ImportsSound c.args.names.now.verdicts.items c.args.place) same (imports_sound whole c.args.names.now c.args.place p c.args.state.now c.requires.state accepted)

pub returns-in_ok-verdict : goal.returns-in_ok-verdict
returns-in_ok-verdict g c =
    let whole = c.args.module.now in
    let m = module_view whole in
    let names = c.args.names.now in
    let k = c.args.place in
    let p = package_view c.index-own.result.now in
    let old = c.args.state.now in
    let at = viewed_at package_view whole.packages.items k c.index-own.result.now c.requires.within c.index-own.ensures in
    let asked : list_all (is_marked c.deref.result.now) c.deref-2.result.now ≡ imports_accepted old.marks.items p = (λ i. list_all (is_marked (c.deref.ensures.value i)) (c.deref-2.ensures.value i)) in
    let accepted = sym asked ∙ sym c.imports_accepted.ensures ∙ c.if-imports_accepted.true in
    let verdict = verdict_view c.in_ok-verdict.verdict in
    let after = headers_view c.check_package.new.book.judge.headers in
    let told : IsVerdict m k p (headers_view old.book.judge.headers) verdict after =
    subst (λ (x : Module). (q : PackageData) → slice_get (module_view x).packages k ≡ Some q → IsVerdict (module_view x) k q (headers_view old.book.judge.headers) verdict after) c.requires.state.over
    c.in_ok-verdict.ensures.verdict p at in
    four_on_ok c.add_report.result
    (λ marks book known reports.
    next_state whole names k p old c.add_report.new.state verdict after c.requires.state marks (ap (λ (b : Rulebook). headers_view b.judge.headers) book) reports c.in_ok-verdict.ensures.sound
    (front_checks m k p at (state_view old) verdict after c.requires.state.front accepted told)
    (ap (λ (b : Rulebook). b.judge.«module».now) book ∙ c.check_package.ensures.module ∙ c.requires.state.over)
    (ap (λ (b : Rulebook). b.judge.scopes.now) book ∙ c.check_package.ensures.scopes ∙ c.requires.state.scopes)
    (ap headers_view known ∙ c.in_ok-verdict.ensures.known ∙ sym (ap (λ (b : Rulebook). headers_view b.judge.headers) book))
    (honest_same c.check_package.ensures.honest (ap (λ (b : Rulebook). headers_view b.judge.headers) book)))
    c.add_report.ensures.marks c.add_report.ensures.book c.add_report.ensures.known c.add_report.ensures.reports

pub returns-else-imports_accepted : goal.returns-else-imports_accepted
returns-else-imports_accepted g c =
    let whole = c.args.module.now in
    let m = module_view whole in
    let names = c.args.names.now in
    let k = c.args.place in
    let p = package_view c.index-own.result.now in
    let old = c.args.state.now in
    let at = viewed_at package_view whole.packages.items k c.index-own.result.now c.requires.within c.index-own.ensures in
    let asked : list_all (is_marked c.deref.result.now) c.deref-2.result.now ≡ imports_accepted old.marks.items p = (λ i. list_all (is_marked (c.deref.ensures.value i)) (c.deref-2.ensures.value i)) in
    let not_accepted = sym asked ∙ sym c.imports_accepted.ensures ∙ c.if-imports_accepted.false in
    four_on_ok c.add_report-else-imports_accepted.result
    (λ marks book known reports.
    next_state whole names k p old c.add_report-else-imports_accepted.new.state skipped (headers_view old.book.judge.headers) c.requires.state marks (ap (λ (b : Rulebook). headers_view b.judge.headers) book) reports (λ e. absurd (cc e))
    (front_skips m k p at (state_view old) c.requires.state.front not_accepted)
    (ap (λ (b : Rulebook). b.judge.«module».now) book ∙ c.requires.state.over)
    (ap (λ (b : Rulebook). b.judge.scopes.now) book ∙ c.requires.state.scopes)
    (ap headers_view known ∙ c.requires.state.same ∙ sym (ap (λ (b : Rulebook). headers_view b.judge.headers) book))
    (honest_same c.requires.state.honest (ap (λ (b : Rulebook). headers_view b.judge.headers) book)))
    c.add_report-else-imports_accepted.ensures.marks c.add_report-else-imports_accepted.ensures.book c.add_report-else-imports_accepted.ensures.known c.add_report-else-imports_accepted.ensures.reports
