use Rattle.std.proofs.Common.{◌≡◌, ◌≤◌, map, drop}
use Rattle.go_term.specs.View.{type_of, field_of, elem_of, union_term_of}
use Rattle.go_term.specs.Types.{parts_of}
use Rattle.go_term.specs.Sizes.{size_of_all, joined}
use Rattle.go_term.specs.Substitution.{subst_all}
use Rattle.go_term.proofs.size.+size.Given as goal

abbrev pub invariant-size_of_list-loop-t : goal.invariant-size_of_list-loop-t
invariant-size_of_list-loop-t l = record {
  deep : l.all.depth ≤ 257;
  large : l.all.nodes ≤ 65537;
  whole : joined l.all (subst_all l.with.from.now (map type_of l.with.to.now) (parts_of (map type_of (drop l.t-index l.terms)))) ≡ size_of_all (subst_all l.with.from.now (map type_of l.with.to.now) (parts_of (map type_of l.terms)));
}

abbrev pub invariant-size_of_fields-loop-f : goal.invariant-size_of_fields-loop-f
invariant-size_of_fields-loop-f l = record {
  deep : l.all.depth ≤ 257;
  large : l.all.nodes ≤ 65537;
  whole : joined l.all (subst_all l.with.from.now (map type_of l.with.to.now) (parts_of (map field_of (drop l.f-index l.fields)))) ≡ size_of_all (subst_all l.with.from.now (map type_of l.with.to.now) (parts_of (map field_of l.fields)));
}

abbrev pub invariant-size_of_elems-loop-e : goal.invariant-size_of_elems-loop-e
invariant-size_of_elems-loop-e l = record {
  deep : l.all.depth ≤ 257;
  large : l.all.nodes ≤ 65537;
  whole : joined l.all (subst_all l.with.from.now (map type_of l.with.to.now) (parts_of (map elem_of (drop l.e-index l.elems)))) ≡ size_of_all (subst_all l.with.from.now (map type_of l.with.to.now) (parts_of (map elem_of l.elems)));
}

abbrev pub invariant-size_of_unions-loop-u : goal.invariant-size_of_unions-loop-u
invariant-size_of_unions-loop-u l = record {
  deep : l.all.depth ≤ 257;
  large : l.all.nodes ≤ 65537;
  whole : joined l.all (subst_all l.with.from.now (map type_of l.with.to.now) (parts_of (map union_term_of (drop l.u-index l.terms)))) ≡ size_of_all (subst_all l.with.from.now (map type_of l.with.to.now) (parts_of (map union_term_of l.terms)));
}
