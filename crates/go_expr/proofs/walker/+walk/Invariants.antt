use Rattle.std.proofs.Common.{◌≡◌, ℕ, map, drop, reverse}
use Rattle.std.specs.List.{AllByRecursion, flat_map}
use Rattle.go_operands.specs.Operands.{expressions_in}
use Rattle.go_model.specs.Outcomes.Walk.{outcome}
use Rattle.go_model.specs.Outcomes.Walked.{walked_over}
use Rattle.go_judge.specs.View.{outcome_as}
use Rattle.go_judge.specs.Types.Own.{IsOwnOutcome, Keeps}
use Rattle.go_names.specs.Views.{trees_at}
use Rattle.go_tree.specs.Tree.{tree_of, node_count}
use Rattle.go_expr.specs.Walker.{AreOwnOutcomes, outcomes_as}
use Rattle.go_expr.proofs.walker.+walk.Given as goal

abbrev pub decreases-walk : goal.decreases-walk
decreases-walk g l = node_count (tree_of l.node.now)

-- the parts from the place on are done, the last first
abbrev pub invariant-loop-place : goal.invariant-loop-place
invariant-loop-place g l = record {
  keeps : Keeps (g.J.Ask.headers l.fn.judge) (g.J.Ask.headers l.judge) (g.J.Ask.names l.fn.judge) (g.J.Ask.names l.judge) (g.J.Ask.outcomes l.fn.judge) (g.J.Ask.outcomes l.judge) (g.J.Ask.is_spent l.fn.judge) (g.J.Ask.is_spent l.judge) (g.J.Ask.world l.fn.judge) (g.J.Ask.world l.judge) (g.J.Ask.is_type l.fn.judge) (g.J.Ask.is_type l.judge) (g.J.Ask.tree l.fn.judge) (g.J.Ask.tree l.judge);
  found : map (outcome_as (g.J.Ask.tree l.judge)) l.outcomes.items ≡ reverse (map (outcome (g.J.Ask.names l.fn.judge) (g.J.Ask.headers l.fn.judge)) (trees_at (drop l.place l.operands.items)));
  own : AllByRecursion (IsOwnOutcome (g.J.Ask.is_type l.judge)) l.outcomes.items;
  reached : (n : ℕ) → outcomes_as (g.J.Ask.tree l.judge) l.walker n ≡ walked_over (g.J.Ask.names l.fn.judge) (g.J.Ask.headers l.fn.judge) (flat_map expressions_in (trees_at (drop l.place l.operands.items))) (outcomes_as (g.J.Ask.tree l.fn.judge) l.fn.walker) n;
  owned : AreOwnOutcomes (g.J.Ask.is_type l.judge) l.walker;
}
