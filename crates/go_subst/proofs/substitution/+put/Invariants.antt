use Rattle.std.proofs.Common.{◌≡◌, ◌++◌, map, drop}
use Rattle.go_term.specs.Substitution.{subst}
use Rattle.go_term.specs.View.{type_of, field_of, elem_of, union_term_of}
use Rattle.go_subst.proofs.substitution.+put.Given as goal

abbrev pub invariant-put_list-loop-t : goal.invariant-put_list-loop-t
invariant-put_list-loop-t l = map type_of l.all.items ++ map (λ x. subst l.with.from.now (map type_of l.with.to.now) (type_of x)) (drop l.t-index l.terms) ≡ map (λ x. subst l.with.from.now (map type_of l.with.to.now) (type_of x)) l.terms

abbrev pub invariant-put_fields-loop-f : goal.invariant-put_fields-loop-f
invariant-put_fields-loop-f l = map field_of l.all.items ++ map (λ x. subst l.with.from.now (map type_of l.with.to.now) (field_of x)) (drop l.f-index l.fields) ≡ map (λ x. subst l.with.from.now (map type_of l.with.to.now) (field_of x)) l.fields

abbrev pub invariant-put_elems-loop-e : goal.invariant-put_elems-loop-e
invariant-put_elems-loop-e l = map elem_of l.all.items ++ map (λ x. subst l.with.from.now (map type_of l.with.to.now) (elem_of x)) (drop l.e-index l.elems) ≡ map (λ x. subst l.with.from.now (map type_of l.with.to.now) (elem_of x)) l.elems

abbrev pub invariant-put_unions-loop-u : goal.invariant-put_unions-loop-u
invariant-put_unions-loop-u l = map union_term_of l.all.items ++ map (λ x. subst l.with.from.now (map type_of l.with.to.now) (union_term_of x)) (drop l.u-index l.terms) ≡ map (λ x. subst l.with.from.now (map type_of l.with.to.now) (union_term_of x)) l.terms
