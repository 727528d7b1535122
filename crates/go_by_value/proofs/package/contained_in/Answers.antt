use Rattle.std.proofs.Common.{◌≡◌, ◌∙◌, List, map, true, ap, subst}
use Rattle.std.specs.Prelude.{◌↔◌}
use Rattle.go_module.specs.Modules.Module.{file_view, package_view}
use Rattle.go_module.specs.Names.Declarations.{Declaration, Spec, declarations_in, declarations_of}
use Rattle.go_module.specs.Order.{IsListOf}
use Rattle.go_module.specs.Places.{with_number}
use Rattle.go_names.specs.Views.{all_specs, declarations_view, specs_by_file, specs_view}
use Rattle.go_cycles.specs.Places.{marked_by, placed_by}
use Rattle.go_cycles.proofs.ListLemmas.{all_from}
use Rattle.go_values.specs.ByValue.{Contained, broken_contained}
use Rattle.go_by_value.specs.Holding.{broken_in}
use Rattle.go_by_value.proofs.package.contained_in.Goals as goal

pub returns-clause-list : goal.returns-clause-list
returns-clause-list g c =
    let p = package_view c.args.package.now in
    let headers = g.F.Ask.headers c.args.judge.now in
    let places = placed_by c.in_ok-places.places.entries in
    let contained = marked_by places c.in_ok-marks.marks.items in
    let specs : map (λ list. specs_view list.items) c.in_ok-specs.specs.items ≡ specs_by_file 0 p.files =
    c.in_ok-specs.ensures ∙ ap (λ files. specs_by_file 0 (map file_view files)) c.deref.ensures.value in
    let declarations : declarations_view c.in_ok-declarations.declarations.items ≡ declarations_of p =
    c.in_ok-declarations.ensures
    ∙ ap (λ lists. declarations_in (all_specs (map (λ list. specs_view list.items) lists))) c.deref-2.ensures.value
    ∙ ap (λ (lists : List (List Spec)). declarations_in (all_specs lists)) specs
    ∙ ap declarations_in (all_from 0 p.files) in
    let found : c.in_ok-found.found.items ≡ broken_in contained (declarations_of p) =
    c.in_ok-found.ensures
    ∙ (λ i. broken_in (marked_by places (c.deref-5.ensures.value i)) (declarations_view (c.deref-6.ensures.value i)))
    ∙ ap (broken_in contained) declarations in
    let told : c.in_ok-with_numbers.field-0.items ≡ broken_contained contained p =
    c.in_ok-with_numbers.ensures ∙ (λ i. map (with_number (map file_view (c.deref-7.ensures.value i))) (c.deref-8.ensures.value i)) ∙ ap (map (with_number p.files)) found in
    record {
      contained = contained;
      is_contained = λ d. subst (λ (ds : List Declaration). (contained d ≡ true) ↔ Contained ds headers d) (ap declarations_view c.deref-4.ensures.value ∙ declarations) (c.in_ok-marks.ensures.exact d);
      is_list = subst (λ l. IsListOf l c.ordered.result.items) told c.ordered.ensures;
    }
