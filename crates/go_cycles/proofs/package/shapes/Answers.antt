use Rattle.std.proofs.Common.{◌≡◌, ◌∙◌, List, filter, map, true, ap, subst}
use Rattle.std.specs.Prelude.{◌↔◌}
use Rattle.go_module.specs.Modules.Module.{file_view, package_view}
use Rattle.go_module.specs.Names.Declarations.{Declaration, Spec, declarations_in, declarations_of}
use Rattle.go_module.specs.Order.{IsListOf}
use Rattle.go_module.specs.Places.{with_number}
use Rattle.go_names.specs.Views.{all_specs, declarations_view, specs_by_file, specs_view}
use Rattle.go_cycles.specs.Leading.{is_type, types_of}
use Rattle.go_cycles.specs.Places.{marked_by, placed_by}
use Rattle.go_cycles.specs.Shapes.{Embeds, Returns, broken_in, broken_shapes, denoted_by}
use Rattle.go_cycles.proofs.ListLemmas.{all_from}
use Rattle.go_cycles.proofs.package.shapes.Goals as goal

pub returns : goal.returns
returns c =
    let p = package_view c.args.package.now in
    let denotes = denoted_by c.args.scopes.now in
    let places = placed_by c.in_ok-places.places.entries in
    let never_ends = marked_by places c.in_ok-returns.returns.items in
    let is_embedded = marked_by places c.in_ok-embeds.embeds.items in
    let specs : map (λ list. specs_view list.items) c.in_ok-specs.specs.items ≡ specs_by_file 0 p.files =
    c.in_ok-specs.ensures ∙ ap (λ files. specs_by_file 0 (map file_view files)) c.deref.ensures.value in
    let declarations : declarations_view c.in_ok-declarations.declarations.items ≡ declarations_of p =
    c.in_ok-declarations.ensures
    ∙ ap (λ lists. declarations_in (all_specs (map (λ list. specs_view list.items) lists))) c.deref-2.ensures.value
    ∙ ap (λ (lists : List (List Spec)). declarations_in (all_specs lists)) specs
    ∙ ap declarations_in (all_from 0 p.files) in
    let types : declarations_view c.in_ok-types.types.items ≡ types_of p =
    c.in_ok-types.ensures ∙ ap (λ list. filter is_type (declarations_view list)) c.deref-3.ensures.value ∙ ap (filter is_type) declarations in
    let found : c.in_ok-found.found.items ≡ broken_in never_ends is_embedded (types_of p) =
    c.in_ok-found.ensures
    ∙ (λ i. broken_in (marked_by places (c.deref-7.ensures.value i)) (marked_by places (c.deref-8.ensures.value i)) (declarations_view (c.deref-9.ensures.value i)))
    ∙ ap (broken_in never_ends is_embedded) types in
    let told : c.in_ok-with_numbers.field-0.items ≡ broken_shapes never_ends is_embedded p =
    c.in_ok-with_numbers.ensures ∙ (λ i. map (with_number (map file_view (c.deref-10.ensures.value i))) (c.deref-11.ensures.value i)) ∙ ap (map (with_number p.files)) found in
    record {
      returns = never_ends;
      embeds = is_embedded;
      is_return = λ d. subst (λ (ts : List Declaration). (never_ends d ≡ true) ↔ Returns denotes ts d) (ap declarations_view c.deref-5.ensures.value ∙ types) (c.in_ok-returns.ensures d);
      is_embedding = λ d. subst (λ (ts : List Declaration). (is_embedded d ≡ true) ↔ Embeds denotes ts d d) (ap declarations_view c.deref-6.ensures.value ∙ types) (c.in_ok-embeds.ensures d);
      is_list = subst (λ l. IsListOf l c.ordered.result.items) told c.ordered.ensures;
    }
