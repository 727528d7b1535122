-- How deep the calls may still be that compare types.
use Rattle.std.proofs.Common.{◌≡◌, ◌+◌, ◌*◌, map, drop}
use Rattle.std.specs.List.{AllByRecursion, flat_map}
use Rattle.std.specs.Vec.Iter.{into_iter_items}
use Rattle.go_judge.specs.Types.Own.{Keeps}
use Rattle.go_judge.specs.Types.TypeIdentity.{ask_any, ask_each}
use Rattle.go_judge.specs.Types.TypeSets.{MethodData}
use Rattle.go_judge.specs.Quests.{run}
use Rattle.go_same.specs.Bounded as bounded
use Rattle.go_same.specs.Kept.{AreKept}
use Rattle.go_same.specs.Layers.{IsOwnPair, pair_view}
use Rattle.go_same.specs.MethodOrder.{views_at}
use Rattle.go_same.specs.Sets.{method_view, part_view, set_view}
use Rattle.go_same.proofs.+same.Given as goal

abbrev pub decreases-identity::same_pairs : goal.decreases-identity::same_pairs
decreases-identity::same_pairs g l = 24 * l.bounds.levels + 23

abbrev pub decreases-interfaces::same_interfaces : goal.decreases-interfaces::same_interfaces
decreases-interfaces::same_interfaces g l = 24 * l.bounds.levels + 22

abbrev pub decreases-interfaces::same_unlike : goal.decreases-interfaces::same_unlike
decreases-interfaces::same_unlike g l = 24 * l.bounds.levels + 21

abbrev pub decreases-interfaces::same_anew : goal.decreases-interfaces::same_anew
decreases-interfaces::same_anew g l = 24 * l.bounds.levels + 20

abbrev pub decreases-interfaces::same_and_kept : goal.decreases-interfaces::same_and_kept
decreases-interfaces::same_and_kept g l = 24 * l.bounds.levels + 19

abbrev pub decreases-interfaces::same_by_sets : goal.decreases-interfaces::same_by_sets
decreases-interfaces::same_by_sets g l = 24 * l.bounds.levels + 18

abbrev pub decreases-interfaces::same_as : goal.decreases-interfaces::same_as
decreases-interfaces::same_as g l = 24 * l.bounds.levels + 17

abbrev pub decreases-interfaces::same_as_set : goal.decreases-interfaces::same_as_set
decreases-interfaces::same_as_set g l = 24 * l.bounds.levels + 16

abbrev pub decreases-identity::same_sets : goal.decreases-identity::same_sets
decreases-identity::same_sets g l = 24 * l.bounds.levels + 15

abbrev pub decreases-identity::same_fitting : goal.decreases-identity::same_fitting
decreases-identity::same_fitting g l = 24 * l.bounds.levels + 14

abbrev pub decreases-identity::same_methods_all : goal.decreases-identity::same_methods_all
decreases-identity::same_methods_all g l = 24 * l.bounds.levels + 13

abbrev pub decreases-identity::same_methods : goal.decreases-identity::same_methods
decreases-identity::same_methods g l = 24 * l.bounds.levels + 12

abbrev pub decreases-identity::same_method : goal.decreases-identity::same_method
decreases-identity::same_method g l = 24 * l.bounds.levels + 11

abbrev pub decreases-identity::same_funcs : goal.decreases-identity::same_funcs
decreases-identity::same_funcs g l = 24 * l.bounds.levels + 0

abbrev pub decreases-within::same_terms : goal.decreases-within::same_terms
decreases-within::same_terms g l = 24 * l.bounds.levels + 13

abbrev pub decreases-within::terms_lie : goal.decreases-within::terms_lie
decreases-within::terms_lie g l = 24 * l.bounds.levels + 12

abbrev pub decreases-within::union_lies : goal.decreases-within::union_lies
decreases-within::union_lies g l = 24 * l.bounds.levels + 11

abbrev pub decreases-within::term_lies : goal.decreases-within::term_lies
decreases-within::term_lies g l = 24 * l.bounds.levels + 10

abbrev pub decreases-within::lies_in : goal.decreases-within::lies_in
decreases-within::lies_in g l = 24 * l.bounds.levels + 9

abbrev pub decreases-within::lies_in_union : goal.decreases-within::lies_in_union
decreases-within::lies_in_union g l = 24 * l.bounds.levels + 8

abbrev pub decreases-within::lies_within : goal.decreases-within::lies_within
decreases-within::lies_within g l = 24 * l.bounds.levels + 7

abbrev pub decreases-one_type::same_term : goal.decreases-one_type::same_term
decreases-one_type::same_term g l = 24 * l.bounds.levels + 6

abbrev pub decreases-one_type::same_apart : goal.decreases-one_type::same_apart
decreases-one_type::same_apart g l = 24 * l.bounds.levels + 5

abbrev pub decreases-one_type::same_declared : goal.decreases-one_type::same_declared
decreases-one_type::same_declared g l = 24 * l.bounds.levels + 4

abbrev pub decreases-one_type::same_underlying : goal.decreases-one_type::same_underlying
decreases-one_type::same_underlying g l = 24 * l.bounds.levels + 3

abbrev pub decreases-within::has_underlying : goal.decreases-within::has_underlying
decreases-within::has_underlying g l = 24 * l.bounds.levels + 2

abbrev pub decreases-within::same_behind : goal.decreases-within::same_behind
decreases-within::same_behind g l = 24 * l.bounds.levels + 1

abbrev pub decreases-within::same_types : goal.decreases-within::same_types
decreases-within::same_types g l = 24 * l.bounds.levels + 0

-- what is left answers the whole
abbrev pub invariant-within::terms_lie-loop-u : goal.invariant-within::terms_lie-loop-u
invariant-within::terms_lie-loop-u g l = record {
  keeps : Keeps (g.J.Ask.headers l.initial.judge) (g.J.Ask.headers l.judge) (g.J.Ask.names l.initial.judge) (g.J.Ask.names l.judge) (g.J.Ask.outcomes l.initial.judge) (g.J.Ask.outcomes l.judge) (g.J.Ask.is_spent l.initial.judge) (g.J.Ask.is_spent l.judge) (g.J.Ask.world l.initial.judge) (g.J.Ask.world l.judge) (g.J.Ask.is_type l.initial.judge) (g.J.Ask.is_type l.judge) (g.J.Ask.tree l.initial.judge) (g.J.Ask.tree l.judge);
  kept : AreKept (g.J.Ask.headers l.judge) (g.J.Ask.is_type l.judge) (g.J.Ask.tree l.judge) l.work.kept;
  own_left : AllByRecursion (λ u. AllByRecursion (λ p. g.J.Ask.is_type l.initial.judge p.ty) u.items) (drop l.u-index l.s.unions.items);
  left : run (g.J.Ask.headers l.initial.judge) (ask_each (bounded.term_lies l.bounds (set_view (g.J.Ask.tree l.initial.judge) l.s) (set_view (g.J.Ask.tree l.initial.judge) l.t)) (flat_map (λ u. u) (map (λ u. map (part_view (g.J.Ask.tree l.initial.judge)) u.items) (drop l.u-index l.s.unions.items))))
      ≡ run (g.J.Ask.headers l.initial.judge) (bounded.terms_lie l.bounds (set_view (g.J.Ask.tree l.initial.judge) l.s) (set_view (g.J.Ask.tree l.initial.judge) l.t));
}

abbrev pub invariant-within::union_lies-loop-a : goal.invariant-within::union_lies-loop-a
invariant-within::union_lies-loop-a g l = record {
  keeps : Keeps (g.J.Ask.headers l.initial.judge) (g.J.Ask.headers l.judge) (g.J.Ask.names l.initial.judge) (g.J.Ask.names l.judge) (g.J.Ask.outcomes l.initial.judge) (g.J.Ask.outcomes l.judge) (g.J.Ask.is_spent l.initial.judge) (g.J.Ask.is_spent l.judge) (g.J.Ask.world l.initial.judge) (g.J.Ask.world l.judge) (g.J.Ask.is_type l.initial.judge) (g.J.Ask.is_type l.judge) (g.J.Ask.tree l.initial.judge) (g.J.Ask.tree l.judge);
  kept : AreKept (g.J.Ask.headers l.judge) (g.J.Ask.is_type l.judge) (g.J.Ask.tree l.judge) l.work.kept;
  own_left : AllByRecursion (λ p. g.J.Ask.is_type l.initial.judge p.ty) (drop l.a-index l.u);
  left : run (g.J.Ask.headers l.initial.judge) (ask_each (bounded.term_lies l.bounds (set_view (g.J.Ask.tree l.initial.judge) l.s) (set_view (g.J.Ask.tree l.initial.judge) l.t)) (map (part_view (g.J.Ask.tree l.initial.judge)) (drop l.a-index l.u)))
      ≡ run (g.J.Ask.headers l.initial.judge) (ask_each (bounded.term_lies l.bounds (set_view (g.J.Ask.tree l.initial.judge) l.s) (set_view (g.J.Ask.tree l.initial.judge) l.t)) (map (part_view (g.J.Ask.tree l.initial.judge)) l.u));
}

abbrev pub invariant-within::lies_in-loop-u : goal.invariant-within::lies_in-loop-u
invariant-within::lies_in-loop-u g l = record {
  keeps : Keeps (g.J.Ask.headers l.initial.judge) (g.J.Ask.headers l.judge) (g.J.Ask.names l.initial.judge) (g.J.Ask.names l.judge) (g.J.Ask.outcomes l.initial.judge) (g.J.Ask.outcomes l.judge) (g.J.Ask.is_spent l.initial.judge) (g.J.Ask.is_spent l.judge) (g.J.Ask.world l.initial.judge) (g.J.Ask.world l.judge) (g.J.Ask.is_type l.initial.judge) (g.J.Ask.is_type l.judge) (g.J.Ask.tree l.initial.judge) (g.J.Ask.tree l.judge);
  kept : AreKept (g.J.Ask.headers l.judge) (g.J.Ask.is_type l.judge) (g.J.Ask.tree l.judge) l.work.kept;
  own_left : AllByRecursion (λ u. AllByRecursion (λ p. g.J.Ask.is_type l.initial.judge p.ty) u.items) (drop l.u-index l.unions);
  left : run (g.J.Ask.headers l.initial.judge) (bounded.lies_in l.bounds (map (λ u. map (part_view (g.J.Ask.tree l.initial.judge)) u.items) (drop l.u-index l.unions)) (part_view (g.J.Ask.tree l.initial.judge) l.a))
      ≡ run (g.J.Ask.headers l.initial.judge) (bounded.lies_in l.bounds (map (λ u. map (part_view (g.J.Ask.tree l.initial.judge)) u.items) l.unions) (part_view (g.J.Ask.tree l.initial.judge) l.a));
}

abbrev pub invariant-within::lies_in_union-loop-b : goal.invariant-within::lies_in_union-loop-b
invariant-within::lies_in_union-loop-b g l = record {
  keeps : Keeps (g.J.Ask.headers l.initial.judge) (g.J.Ask.headers l.judge) (g.J.Ask.names l.initial.judge) (g.J.Ask.names l.judge) (g.J.Ask.outcomes l.initial.judge) (g.J.Ask.outcomes l.judge) (g.J.Ask.is_spent l.initial.judge) (g.J.Ask.is_spent l.judge) (g.J.Ask.world l.initial.judge) (g.J.Ask.world l.judge) (g.J.Ask.is_type l.initial.judge) (g.J.Ask.is_type l.judge) (g.J.Ask.tree l.initial.judge) (g.J.Ask.tree l.judge);
  kept : AreKept (g.J.Ask.headers l.judge) (g.J.Ask.is_type l.judge) (g.J.Ask.tree l.judge) l.work.kept;
  own_left : AllByRecursion (λ p. g.J.Ask.is_type l.initial.judge p.ty) (drop l.b-index l.u);
  left : run (g.J.Ask.headers l.initial.judge) (ask_any (bounded.lies_within l.bounds (part_view (g.J.Ask.tree l.initial.judge) l.a)) (map (part_view (g.J.Ask.tree l.initial.judge)) (drop l.b-index l.u)))
      ≡ run (g.J.Ask.headers l.initial.judge) (ask_any (bounded.lies_within l.bounds (part_view (g.J.Ask.tree l.initial.judge) l.a)) (map (part_view (g.J.Ask.tree l.initial.judge)) l.u));
}

abbrev pub invariant-identity::same_pairs-loop-x : goal.invariant-identity::same_pairs-loop-x
invariant-identity::same_pairs-loop-x g l = record {
  keeps : Keeps (g.J.Ask.headers l.initial.judge) (g.J.Ask.headers l.judge) (g.J.Ask.names l.initial.judge) (g.J.Ask.names l.judge) (g.J.Ask.outcomes l.initial.judge) (g.J.Ask.outcomes l.judge) (g.J.Ask.is_spent l.initial.judge) (g.J.Ask.is_spent l.judge) (g.J.Ask.world l.initial.judge) (g.J.Ask.world l.judge) (g.J.Ask.is_type l.initial.judge) (g.J.Ask.is_type l.judge) (g.J.Ask.tree l.initial.judge) (g.J.Ask.tree l.judge);
  kept : AreKept (g.J.Ask.headers l.judge) (g.J.Ask.is_type l.judge) (g.J.Ask.tree l.judge) l.work.kept;
  own_left : AllByRecursion (IsOwnPair (g.J.Ask.is_type l.initial.judge)) (into_iter_items l.x-iterator);
  left : run (g.J.Ask.headers l.initial.judge) (ask_each (bounded.same_interfaces l.bounds) (map (pair_view (g.J.Ask.tree l.initial.judge)) (into_iter_items l.x-iterator)))
      ≡ run (g.J.Ask.headers l.initial.judge) (ask_each (bounded.same_interfaces l.bounds) (map (pair_view (g.J.Ask.tree l.initial.judge)) l.fn.pairs.items));
}

abbrev pub invariant-identity::same_methods-loop-i : goal.invariant-identity::same_methods-loop-i
invariant-identity::same_methods-loop-i g l = record {
  keeps : Keeps (g.J.Ask.headers l.initial.judge) (g.J.Ask.headers l.judge) (g.J.Ask.names l.initial.judge) (g.J.Ask.names l.judge) (g.J.Ask.outcomes l.initial.judge) (g.J.Ask.outcomes l.judge) (g.J.Ask.is_spent l.initial.judge) (g.J.Ask.is_spent l.judge) (g.J.Ask.world l.initial.judge) (g.J.Ask.world l.judge) (g.J.Ask.is_type l.initial.judge) (g.J.Ask.is_type l.judge) (g.J.Ask.tree l.initial.judge) (g.J.Ask.tree l.judge);
  kept : AreKept (g.J.Ask.headers l.judge) (g.J.Ask.is_type l.judge) (g.J.Ask.tree l.judge) l.work.kept;
  left : (other : MethodData) → run (g.J.Ask.headers l.initial.judge) (ask_each (bounded.same_methods l.bounds) (map (views_at (map (method_view (g.J.Ask.tree l.initial.judge)) l.ms) (map (method_view (g.J.Ask.tree l.initial.judge)) l.ns) other) (drop l.i-index l.pairs)))
      ≡ run (g.J.Ask.headers l.initial.judge) (ask_each (bounded.same_methods l.bounds) (map (views_at (map (method_view (g.J.Ask.tree l.initial.judge)) l.ms) (map (method_view (g.J.Ask.tree l.initial.judge)) l.ns) other) l.pairs));
}
