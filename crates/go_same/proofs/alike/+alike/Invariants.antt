use Rattle.std.proofs.Common.{◌≡◌, map, drop, ◌+◌, ◌*◌}
use Rattle.std.specs.List.{AllByRecursion}
use Rattle.go_term.specs.Shapes.{shape_tree}
use Rattle.go_term.specs.Size.{depth, greatest_depth}
use Rattle.go_term.specs.Types.{parts_of}
use Rattle.go_judge.specs.Types.Own.{Keeps}
use Rattle.go_judge.specs.Types.Heads.{all_alike}
use Rattle.go_same.specs.Layers.{lent, plain_types}
use Rattle.go_same.proofs.alike.+alike.Given as goal

abbrev pub decreases-alike : goal.decreases-alike
decreases-alike g l = 3 * depth (g.J.Ask.tree l.judge.now l.a.now) + 2

abbrev pub decreases-alike_layers : goal.decreases-alike_layers
decreases-alike_layers g l = 3 * depth (shape_tree (g.J.Ask.tree l.judge.now) l.x.now) + 1

abbrev pub decreases-alike_all : goal.decreases-alike_all
decreases-alike_all g l = 3 * greatest_depth (parts_of (map (g.J.Ask.tree l.judge.now) (lent l.ts.now))) + 3

-- what is left to compare is what is left of the types
abbrev pub invariant-alike_all-loop-i : goal.invariant-alike_all-loop-i
invariant-alike_all-loop-i g l = record {
  keeps : Keeps (g.J.Ask.headers l.initial.judge) (g.J.Ask.headers l.judge) (g.J.Ask.names l.initial.judge) (g.J.Ask.names l.judge)
      (g.J.Ask.outcomes l.initial.judge) (g.J.Ask.outcomes l.judge) (g.J.Ask.is_spent l.initial.judge) (g.J.Ask.is_spent l.judge)
      (g.J.Ask.world l.initial.judge) (g.J.Ask.world l.judge) (g.J.Ask.is_type l.initial.judge) (g.J.Ask.is_type l.judge)
      (g.J.Ask.tree l.initial.judge) (g.J.Ask.tree l.judge);
  ts_own : AllByRecursion (g.J.Ask.is_type l.initial.judge) (lent (drop l.i l.ts));
  us_own : AllByRecursion (g.J.Ask.is_type l.initial.judge) (lent (drop l.i l.us));
  alike : all_alike (plain_types (g.J.Ask.tree l.initial.judge) (lent (drop l.i l.ts))) (plain_types (g.J.Ask.tree l.initial.judge) (lent (drop l.i l.us)))
      ≡ all_alike (plain_types (g.J.Ask.tree l.initial.judge) (lent l.ts)) (plain_types (g.J.Ask.tree l.initial.judge) (lent l.us));
}
