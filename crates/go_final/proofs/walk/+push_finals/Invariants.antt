use Rattle.std.proofs.Common.{◌≡◌, ◌++◌, drop, length}
use Rattle.std.specs.Option.{option_map}
use Rattle.go_tree.specs.Tree.{node_count, tree_of}
use Rattle.go_names.specs.Views.{trees_at}
use Rattle.go_judge.specs.Types.Own.{Keeps}
use Rattle.go_expr.specs.Read.{outcome_read}
use Rattle.go_expr.specs.Walker.{outcomes_as}
use Rattle.go_report.specs.Finals.Nodes.{finals_by}
use Rattle.go_final.specs.Ends.{AreOwnFinals, each_by, finals_as}
use Rattle.go_final.specs.Wants.{AreOwnWants, wants_as}
use Rattle.go_final.proofs.walk.+push_finals.Given as goal

abbrev pub decreases-push_finals : goal.decreases-push_finals
decreases-push_finals g l = node_count (tree_of l.node.now)

-- what is pushed, with the final types in the operands left, is the whole; the judge stays as it is
abbrev pub invariant-loop-place : goal.invariant-loop-place
invariant-loop-place g l =
    let headers = g.J.Ask.headers l.fn.judge in
    let outcome = outcome_read (outcomes_as (g.J.Ask.tree l.fn.judge) l.walker) in
    record {
      keeps : Keeps (g.J.Ask.headers l.fn.judge) (g.J.Ask.headers l.judge) (g.J.Ask.names l.fn.judge) (g.J.Ask.names l.judge) (g.J.Ask.outcomes l.fn.judge) (g.J.Ask.outcomes l.judge) (g.J.Ask.is_spent l.fn.judge) (g.J.Ask.is_spent l.judge) (g.J.Ask.world l.fn.judge) (g.J.Ask.world l.judge) (g.J.Ask.is_type l.fn.judge) (g.J.Ask.is_type l.judge) (g.J.Ask.tree l.fn.judge) (g.J.Ask.tree l.judge);
      finals : finals_as (g.J.Ask.tree l.judge) l.list.items ++ each_by headers outcome (wants_as (g.J.Ask.tree l.judge) (drop l.place l.wants.items)) (trees_at (drop l.place l.operands.items)) ≡ finals_as (g.J.Ask.tree l.fn.judge) l.fn.list.items ++ finals_by headers outcome (option_map (g.J.Ask.tree l.fn.judge) l.want) (tree_of l.node);
      own : AreOwnFinals (g.J.Ask.is_type l.judge) l.list.items;
      wants : AreOwnWants (g.J.Ask.is_type l.judge) l.wants.items;
      long : length l.wants.items ≡ length l.operands.items;
    }
