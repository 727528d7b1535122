use Rattle.std.proofs.Common.{◌≡◌, ◌∙◌, refl, sym, ap, subst}
use Rattle.std.proofs.lemmas.Result.{IfOk-weaker}
use Rattle.go_module.specs.Modules.Module.{PackageData, module_view, package_view}
use Rattle.go_judge.specs.declared.headers.Headers.{Headers as HeaderMap}
use Rattle.go_model.specs.Outcomes.Walked.{AreWalked, nodes_of}
use Rattle.go_report.specs.Phases.{BreaksValues, IsVerdict}
use Rattle.go_report.specs.Report.{verdict_view}
use Rattle.go_judge.specs.HeadersView.{headers_view}
use Rattle.go_judge.specs.Naming.{AreThere, Naming}
use Rattle.go_model.specs.Naming.{names_in}
use Rattle.go_expr.specs.Walker.{outcomes_view}
use Rattle.go_decl.proofs.HonestHeaders.{honest_same}
use Rattle.go_decl.proofs.ListLemmas.{on_ok, viewed_at}
use Rattle.go_check.specs.Packages.Book.{Standing, book_names, names_at}
use Rattle.go_check.proofs.package.check_values.Goals as goal

pub broken_values-requires-clause-there : goal.broken_values-requires-clause-there
broken_values-requires-clause-there g c = subst AreThere (ap (λ (s : Standing). names_at s.«module» s.scopes s.place) (sym c.enter.ensures.standing)) c.requires.there

pub broken_values-requires-clause-same : goal.broken_values-requires-clause-same
broken_values-requires-clause-same g c = c.requires.same ∙ ap headers_view (sym c.enter.ensures.headers)

pub broken_values-requires-clause-honest : goal.broken_values-requires-clause-honest
broken_values-requires-clause-honest g c = honest_same c.requires.honest (ap headers_view c.enter.ensures.headers)

pub returns-clause-verdict : goal.returns-clause-verdict
returns-clause-verdict g c =
    let m = module_view c.args.book.now.judge.«module».now in
    let k = c.args.place in
    let before = headers_view c.args.book.now.judge.headers in
    let entered = c.enter.new.self in
    let after = c.broken_values.new.rules in
    let headers = headers_view after.judge.headers in
    let behind = c.verdict_by.ensures.headers in
    let own = package_view c.index.result.now in
    let list = c.in_ok-list.list.items in
    let here = viewed_at package_view c.args.book.now.judge.«module».now.packages.items k c.index.result.now c.requires.within c.index.ensures in
    IfOk-weaker c.verdict_by.result _ _
    (λ verdict is p at outline names shapes.
    let same : own ≡ p = cc (here, at) in
    let named : book_names entered.judge ≡ names_in m k p = ap (λ (s : Standing). names_at s.«module» s.scopes s.place) c.enter.ensures.standing ∙ names in
    let walked = subst (λ (ms : Naming). AreWalked ms headers (nodes_of p) (outcomes_view after.walker)) named (c.in_ok-list.ensures.nodes p at) in
    let found = subst (λ (b : HeaderMap). BreaksValues m k p (headers_view b) headers list) c.enter.ensures.headers (c.in_ok-list.ensures.list p at named shapes) in
    let told : IsVerdict m k p before (verdict_view verdict) headers =
    subst (λ (q : PackageData). book_names after.judge ≡ names_in m k q → headers ≡ headers → AreWalked (names_in m k q) headers (nodes_of q) (outcomes_view after.walker) → BreaksValues m k q before headers c.deref.result.now → IsVerdict m k q before (verdict_view verdict) headers) same
    (is m k before headers outline) (c.broken_values.ensures.names ∙ named) refl walked (subst (BreaksValues m k p before headers) (sym c.deref.ensures.value) found) in
    subst (IsVerdict m k p before (verdict_view verdict)) (sym behind) told)
    c.verdict_by.ensures.verdict

pub returns-clause-known : goal.returns-clause-known
returns-clause-known g c = on_ok c.verdict_by.result _ (c.in_ok-list.ensures.known ∙ sym c.verdict_by.ensures.headers)

pub returns-clause-module : goal.returns-clause-module
returns-clause-module g c = ap (λ (s : Standing). s.«module») (c.verdict_by.ensures.standing ∙ c.broken_values.ensures.world ∙ c.enter.ensures.standing)

pub returns-clause-scopes : goal.returns-clause-scopes
returns-clause-scopes g c = ap (λ (s : Standing). s.scopes) (c.verdict_by.ensures.standing ∙ c.broken_values.ensures.world ∙ c.enter.ensures.standing)

pub returns-clause-honest : goal.returns-clause-honest
returns-clause-honest g c = honest_same c.broken_values.ensures.honest c.verdict_by.ensures.headers
