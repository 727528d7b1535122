use Rattle.std.proofs.Common.{◌≡◌, ◌+◌, ◌*◌, ◌≤◌, map}
use Rattle.std.specs.List.{AllByRecursion}
use Rattle.std.specs.Option.{option_map}
use Rattle.std.specs.Prelude.{IfSome}
use Rattle.std.specs.Vec.Iter.{into_iter_items}
use Rattle.go_term.specs.Shapes.{elem_tree, union_tree}
use Rattle.go_term.specs.Size.{depth, greatest_depth}
use Rattle.go_term.specs.Types.{parts_of}
use Rattle.go_judge.specs.Types.Own.{IsOwnElem, Keeps}
use Rattle.go_judge.specs.Types.TypeSets as sets
use Rattle.go_judge.specs.Quests.{run}
use Rattle.go_same.specs.Collect.{asked_joined, opening_within}
use Rattle.go_same.specs.Sets.{IsOwnFound, found_as}
use Rattle.go_same.proofs.CollectLemmas.{union_rest}
use Rattle.go_same.proofs.collect.+collect.Given as goal

-- no call goes deeper into a type without end: a type that a name leads to may be deeper, and has one name less to open
abbrev pub decreases-set_of : goal.decreases-set_of
decreases-set_of g l = 10 * (257 * l.left + depth (g.J.Ask.tree l.judge.now l.t)) + 4

abbrev pub decreases-set_of_kind : goal.decreases-set_of_kind
decreases-set_of_kind g l = 10 * (257 * l.left + depth (g.J.Ask.tree l.judge.now l.t)) + 3

abbrev pub decreases-elements_set : goal.decreases-elements_set
decreases-elements_set g l = 10 * (257 * l.left + greatest_depth (parts_of (map (elem_tree (g.J.Ask.tree l.judge.now)) l.elems.items))) + 9

abbrev pub decreases-element_set : goal.decreases-element_set
decreases-element_set g l = 10 * (257 * l.left + depth (elem_tree (g.J.Ask.tree l.judge.now) l.elem)) + 8

abbrev pub decreases-union_set : goal.decreases-union_set
decreases-union_set g l = 10 * (257 * l.left + greatest_depth (parts_of (map (union_tree (g.J.Ask.tree l.judge.now)) l.terms.items))) + 7

abbrev pub decreases-with_term : goal.decreases-with_term
decreases-with_term g l = 10 * (257 * l.left + depth (union_tree (g.J.Ask.tree l.judge.now) l.term)) + 6

abbrev pub decreases-term_set : goal.decreases-term_set
decreases-term_set g l = 10 * (257 * l.left + depth (union_tree (g.J.Ask.tree l.judge.now) l.term)) + 5

abbrev pub decreases-tilde_set : goal.decreases-tilde_set
decreases-tilde_set g l = 10 * (257 * l.left) + 4

abbrev pub decreases-tilde_set_by : goal.decreases-tilde_set_by
decreases-tilde_set_by g l = 10 * (257 * l.left) + 3

abbrev pub decreases-named_set : goal.decreases-named_set
decreases-named_set g l = 10 * (257 * l.left) + 2

abbrev pub decreases-set_by_form : goal.decreases-set_by_form
decreases-set_by_form g l = 10 * (257 * l.left) + 1

abbrev pub decreases-set_by_kind : goal.decreases-set_by_kind
decreases-set_by_kind g l = 10 * (257 * l.left)

abbrev pub invariant-elements_set-loop-e : goal.invariant-elements_set-loop-e
invariant-elements_set-loop-e g l = record {
  keeps : Keeps (g.J.Ask.headers l.initial.judge) (g.J.Ask.headers l.judge) (g.J.Ask.names l.initial.judge) (g.J.Ask.names l.judge) (g.J.Ask.outcomes l.initial.judge) (g.J.Ask.outcomes l.judge) (g.J.Ask.is_spent l.initial.judge) (g.J.Ask.is_spent l.judge) (g.J.Ask.world l.initial.judge) (g.J.Ask.world l.judge) (g.J.Ask.is_type l.initial.judge) (g.J.Ask.is_type l.judge) (g.J.Ask.tree l.initial.judge) (g.J.Ask.tree l.judge);
  own_left : AllByRecursion (IsOwnElem (g.J.Ask.is_type l.initial.judge)) (into_iter_items l.e-iterator);
  shallow : greatest_depth (parts_of (map (elem_tree (g.J.Ask.tree l.initial.judge)) (into_iter_items l.e-iterator))) ≤ greatest_depth (parts_of (map (elem_tree (g.J.Ask.tree l.initial.judge)) l.fn.elems.items));
  own_all : IsOwnFound (g.J.Ask.is_type l.judge) l.all;
  left : asked_joined sets.both_sets (found_as (g.J.Ask.tree l.judge) l.all) (run (g.J.Ask.headers l.initial.judge) (sets.elements_set (opening_within l.left) (sets.plain_all (parts_of (map (elem_tree (g.J.Ask.tree l.initial.judge)) (into_iter_items l.e-iterator))))))
      ≡ run (g.J.Ask.headers l.initial.judge) (sets.elements_set (opening_within l.left) (sets.plain_all (parts_of (map (elem_tree (g.J.Ask.tree l.initial.judge)) l.fn.elems.items))));
}

abbrev pub invariant-union_set-loop-u : goal.invariant-union_set-loop-u
invariant-union_set-loop-u g l = record {
  keeps : Keeps (g.J.Ask.headers l.initial.judge) (g.J.Ask.headers l.judge) (g.J.Ask.names l.initial.judge) (g.J.Ask.names l.judge) (g.J.Ask.outcomes l.initial.judge) (g.J.Ask.outcomes l.judge) (g.J.Ask.is_spent l.initial.judge) (g.J.Ask.is_spent l.judge) (g.J.Ask.world l.initial.judge) (g.J.Ask.world l.judge) (g.J.Ask.is_type l.initial.judge) (g.J.Ask.is_type l.judge) (g.J.Ask.tree l.initial.judge) (g.J.Ask.tree l.judge);
  own_left : AllByRecursion (λ u. g.J.Ask.is_type l.initial.judge u.ty) (into_iter_items l.u-iterator);
  shallow : greatest_depth (parts_of (map (union_tree (g.J.Ask.tree l.initial.judge)) (into_iter_items l.u-iterator))) ≤ greatest_depth (parts_of (map (union_tree (g.J.Ask.tree l.initial.judge)) l.fn.terms.items));
  own_all : IfSome l.all (IsOwnFound (g.J.Ask.is_type l.judge));
  left : union_rest (g.J.Ask.headers l.initial.judge) (opening_within l.left) (option_map (found_as (g.J.Ask.tree l.judge)) l.all) (sets.plain_all (parts_of (map (union_tree (g.J.Ask.tree l.initial.judge)) (into_iter_items l.u-iterator))))
      ≡ run (g.J.Ask.headers l.initial.judge) (sets.union_set (opening_within l.left) (sets.plain_all (parts_of (map (union_tree (g.J.Ask.tree l.initial.judge)) l.fn.terms.items))));
}
