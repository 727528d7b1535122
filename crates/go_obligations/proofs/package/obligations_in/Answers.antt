use Rattle.std.proofs.Common.{◌≡◌, ◌∙◌, List, map, ap, subst}
use Rattle.std.specs.Prelude.{◌↔◌, Contains}
use Rattle.std.proofs.lemmas.Result.{IfOk-weaker}
use Rattle.go_base.specs.declared.rule.Broken.{Broken}
use Rattle.go_module.specs.Modules.Module.{file_view, package_view}
use Rattle.go_module.specs.Names.Declarations.{specs_of}
use Rattle.go_module.specs.Places.{with_number}
use Rattle.go_names.specs.Views.{all_specs, specs_by_file, specs_view}
use Rattle.go_model.specs.Outcomes.Walk.{outcome}
use Rattle.go_obligations.specs.Owed.{IsTold, Owed, owed_by_specs, owed_view}
use Rattle.go_obligations.specs.Read.{outcome_read}
use Rattle.go_obligations.proofs.ReadLemmas.{all_from, specs_same}
use Rattle.go_obligations.proofs.ToldLemmas.{list_obliged}
use Rattle.go_obligations.proofs.package.obligations_in.Goals as goal

pub returns-clause-list : goal.returns-clause-list
returns-clause-list g c =
    let p = package_view c.args.package.now in
    let names = g.R.Ask.names c.args.rules.now in
    let headers = g.R.Ask.headers c.args.rules.now in
    let outcomes = g.R.Ask.outcomes c.args.rules.now in
    let tree = g.R.Ask.tree c.args.rules.now in
    let found = c.in_ok-found.found.items in
    let lists : map (λ list. specs_view list.items) c.in_ok-specs.specs.items ≡ specs_by_file 0 p.files =
    c.in_ok-specs.ensures ∙ ap (λ files. specs_by_file 0 (map file_view files)) c.deref.ensures.value in
    let specs : all_specs (map (λ list. specs_view list.items) c.deref-2.result.now) ≡ specs_of p =
    ap (λ lists. all_specs (map (λ list. specs_view list.items) lists)) c.deref-2.ensures.value ∙ ap all_specs lists ∙ all_from 0 p.files in
    let owed : owed_view tree c.deref-3.result.now ≡ owed_by_specs (outcome names headers) (specs_of p) =
    ap (owed_view tree) c.deref-3.ensures.value ∙ c.in_ok-owed.ensures.owed ∙ ap (owed_by_specs (outcome_read outcomes)) specs ∙ specs_same names headers outcomes p c.requires in
    let exact : (b : Broken) → Contains found b ↔ IsTold headers (owed_by_specs (outcome names headers) (specs_of p)) b =
    λ b. subst (λ (l : List Owed). Contains found b ↔ IsTold headers l b) owed (c.in_ok-found.ensures.told b) in
    IfOk-weaker c.with_numbers.result _ _
    (λ list is.
    let told : list.items ≡ map (with_number p.files) found = is ∙ (λ i. map (with_number (map file_view (c.deref-4.ensures.value i))) (c.deref-5.ensures.value i)) in
    list_obliged headers (outcome names headers) p list.items found told exact)
    c.with_numbers.ensures
