use Rattle.std.proofs.Common.{◌≡◌, map, drop}
use Rattle.indexmap.specs.IndexMap.{insert_all}
use Rattle.go_module.specs.Scopes.{same_object}
use Rattle.go_term.specs.Types.{parts_of}
use Rattle.go_term.specs.View.{elem_of, field_of, type_of, union_term_of}
use Rattle.go_report.specs.PackageLines.{objects_in_parts}
use Rattle.go_check.proofs.named.+named.Given as goal

-- the table, with the objects of the parts left, is that of all parts
abbrev pub invariant-add_types-loop-t : goal.invariant-add_types-loop-t
invariant-add_types-loop-t l =
    insert_all same_object l.objects.entries (map (λ d. (d, d)) (objects_in_parts (parts_of (map type_of (drop l.t-index l.terms.items))))) ≡ insert_all same_object l.initial.objects.entries (map (λ d. (d, d)) (objects_in_parts (parts_of (map type_of l.terms.items))))

abbrev pub invariant-add_fields-loop-f : goal.invariant-add_fields-loop-f
invariant-add_fields-loop-f l =
    insert_all same_object l.objects.entries (map (λ d. (d, d)) (objects_in_parts (parts_of (map field_of (drop l.f-index l.fields.items))))) ≡ insert_all same_object l.initial.objects.entries (map (λ d. (d, d)) (objects_in_parts (parts_of (map field_of l.fields.items))))

abbrev pub invariant-add_elems-loop-e : goal.invariant-add_elems-loop-e
invariant-add_elems-loop-e l =
    insert_all same_object l.objects.entries (map (λ d. (d, d)) (objects_in_parts (parts_of (map elem_of (drop l.e-index l.elems.items))))) ≡ insert_all same_object l.initial.objects.entries (map (λ d. (d, d)) (objects_in_parts (parts_of (map elem_of l.elems.items))))

abbrev pub invariant-add_unions-loop-u : goal.invariant-add_unions-loop-u
invariant-add_unions-loop-u l =
    insert_all same_object l.objects.entries (map (λ d. (d, d)) (objects_in_parts (parts_of (map union_term_of (drop l.u-index l.terms.items))))) ≡ insert_all same_object l.initial.objects.entries (map (λ d. (d, d)) (objects_in_parts (parts_of (map union_term_of l.terms.items))))
