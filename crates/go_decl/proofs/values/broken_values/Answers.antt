use Rattle.std.proofs.Common.{◌≡◌, ◌++◌, map, ap, ◌∙◌, subst}
use Rattle.std.specs.List.{flat_map}
use Rattle.go_module.specs.Modules.Module.{file_view, package_view}
use Rattle.go_module.specs.Names.Declarations.{declarations_of, specs_of}
use Rattle.go_module.specs.Order.{IsListOf}
use Rattle.go_module.specs.Places.{with_number}
use Rattle.go_values.specs.Rules.{broken_cycles, broken_in_files, broken_spec_by, broken_values}
use Rattle.go_names.specs.Views.{declarations_view}
use Rattle.go_expr.specs.Read.{outcome_read}
use Rattle.go_decl.specs.Places.{placed_by}
use Rattle.go_decl.specs.Waits.{marked_by}
use Rattle.go_decl.proofs.ReadLemmas.{specs_same}
use Rattle.go_decl.proofs.values.broken_values.Goals as goal

pub returns : goal.returns
returns g c = λ naming headers walked.
    let p = package_view c.args.own.now in
    let outcomes = g.W.Ask.outcomes c.args.walks.now in
    let marks = marked_by (placed_by c.args.places.now.entries) c.args.cyclic.now in
    let cycles : c.push_cycles.new.list.items ≡ broken_cycles marks (declarations_of p) =
    c.in_ok-push_cycles.ensures ∙ ap (λ l. l ++ broken_cycles marks (declarations_view c.args.declarations.now)) c.new-found.ensures.items ∙ ap (broken_cycles marks) c.requires.declarations in
    let found : c.push_specs.new.found.items ≡ broken_in_files naming headers marks p =
    c.in_ok-push_specs.ensures
    ∙ (λ i. cycles i ++ flat_map (broken_spec_by (outcome_read outcomes)) (c.requires.specs i))
    ∙ ap (λ l. broken_cycles marks (declarations_of p) ++ l) (specs_same naming headers outcomes (specs_of p) walked) in
    let told : c.in_ok-with_numbers.field-0.items ≡ broken_values naming headers marks p =
    c.in_ok-with_numbers.ensures ∙ (λ i. map (with_number (map file_view (c.deref.ensures.value i))) (c.deref-2.ensures.value i)) ∙ ap (map (with_number p.files)) found in
    subst (λ l. IsListOf l c.ordered.result.items) told c.ordered.ensures
