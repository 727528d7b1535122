use Rattle.std.proofs.Common.{◌≡◌, ◌++◌, map, drop, ◌+◌, ◌*◌}
use Rattle.std.specs.List.{AllByRecursion}
use Rattle.go_term.specs.Shapes.{shape_tree}
use Rattle.go_term.specs.Size.{depth, greatest_depth}
use Rattle.go_term.specs.Types.{parts_of}
use Rattle.go_judge.specs.Types.Own.{Keeps}
use Rattle.go_judge.specs.Types.TypeIdentity.{all_fit, interfaces_in_all}
use Rattle.go_same.specs.Layers.{IsOwnPair, lent, pair_view, plain_types}
use Rattle.go_same.proofs.outline.+outline.Given as goal

abbrev pub decreases-outline : goal.decreases-outline
decreases-outline g l = 4 * depth (g.J.Ask.tree l.judge.now l.a.now) + 3

abbrev pub decreases-outline_layers : goal.decreases-outline_layers
decreases-outline_layers g l = 4 * depth (shape_tree (g.J.Ask.tree l.judge.now) l.x) + 2

abbrev pub decreases-outline_apart : goal.decreases-outline_apart
decreases-outline_apart g l = 4 * depth (shape_tree (g.J.Ask.tree l.judge.now) l.x.now) + 1

abbrev pub decreases-outline_all : goal.decreases-outline_all
decreases-outline_all g l = 4 * greatest_depth (parts_of (map (g.J.Ask.tree l.judge.now) (lent l.ts.now))) + 4

-- what is left to compare and to push is what is left of the types
abbrev pub invariant-outline_all-loop-i : goal.invariant-outline_all-loop-i
invariant-outline_all-loop-i g l = record {
  keeps : Keeps (g.J.Ask.headers l.initial.judge) (g.J.Ask.headers l.judge) (g.J.Ask.names l.initial.judge) (g.J.Ask.names l.judge)
      (g.J.Ask.outcomes l.initial.judge) (g.J.Ask.outcomes l.judge) (g.J.Ask.is_spent l.initial.judge) (g.J.Ask.is_spent l.judge)
      (g.J.Ask.world l.initial.judge) (g.J.Ask.world l.judge) (g.J.Ask.is_type l.initial.judge) (g.J.Ask.is_type l.judge)
      (g.J.Ask.tree l.initial.judge) (g.J.Ask.tree l.judge);
  ts_own : AllByRecursion (g.J.Ask.is_type l.initial.judge) (lent (drop l.i l.ts));
  us_own : AllByRecursion (g.J.Ask.is_type l.initial.judge) (lent (drop l.i l.us));
  pairs_own : AllByRecursion (IsOwnPair (g.J.Ask.is_type l.judge)) l.pairs.items;
  fits : all_fit (plain_types (g.J.Ask.tree l.initial.judge) (lent (drop l.i l.ts))) (plain_types (g.J.Ask.tree l.initial.judge) (lent (drop l.i l.us)))
      ≡ all_fit (plain_types (g.J.Ask.tree l.initial.judge) (lent l.ts)) (plain_types (g.J.Ask.tree l.initial.judge) (lent l.us));
  pairs : map (pair_view (g.J.Ask.tree l.judge)) l.pairs.items
      ++ interfaces_in_all (plain_types (g.J.Ask.tree l.initial.judge) (lent (drop l.i l.ts))) (plain_types (g.J.Ask.tree l.initial.judge) (lent (drop l.i l.us)))
      ≡ map (pair_view (g.J.Ask.tree l.initial.judge)) l.initial.pairs.items
      ++ interfaces_in_all (plain_types (g.J.Ask.tree l.initial.judge) (lent l.ts)) (plain_types (g.J.Ask.tree l.initial.judge) (lent l.us));
}
