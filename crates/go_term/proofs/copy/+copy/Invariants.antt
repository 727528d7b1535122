use Rattle.std.proofs.Common.{◌≡◌, ◌++◌, map, drop}
use Rattle.go_term.specs.View.{type_of, field_of, elem_of, union_term_of}
use Rattle.go_term.proofs.copy.+copy.Given as goal

abbrev pub invariant-copy_list-loop-t : goal.invariant-copy_list-loop-t
invariant-copy_list-loop-t l = map type_of l.all.items ++ map type_of (drop l.t-index l.terms.items) ≡ map type_of l.terms.items

abbrev pub invariant-copy_fields-loop-f : goal.invariant-copy_fields-loop-f
invariant-copy_fields-loop-f l = map field_of l.all.items ++ map field_of (drop l.f-index l.fields.items) ≡ map field_of l.fields.items

abbrev pub invariant-copy_elems-loop-e : goal.invariant-copy_elems-loop-e
invariant-copy_elems-loop-e l = map elem_of l.all.items ++ map elem_of (drop l.e-index l.elems.items) ≡ map elem_of l.elems.items

abbrev pub invariant-copy_unions-loop-u : goal.invariant-copy_unions-loop-u
invariant-copy_unions-loop-u l = map union_term_of l.all.items ++ map union_term_of (drop l.u-index l.terms.items) ≡ map union_term_of l.terms.items
