use Rattle.std.proofs.Common.{◌≡◌, ◌++◌, drop, map}
use Rattle.go_names.specs.Views.{trees_at}
use Rattle.go_model.specs.Outcomes.Readings.{record_by}
use Rattle.go_expr.specs.Read.{outcome_read}
use Rattle.go_expr.specs.Walker.{outcomes_as}
use Rattle.go_final.specs.Wants.{AreOwnFounds, founds_as}
use Rattle.go_final.proofs.walk.records_of.Given as goal

-- what is pushed, with the records of the nodes left, are those of all nodes
abbrev pub invariant-loop-node : goal.invariant-loop-node
invariant-loop-node g l =
    let record_at = record_by (outcome_read (outcomes_as (g.J.Ask.tree l.judge) l.walker)) in
    record {
      records : founds_as (g.J.Ask.tree l.judge) l.founds.items ++ map record_at (trees_at (drop l.node-index l.nodes)) ≡ map record_at (trees_at l.nodes);
      own : AreOwnFounds (g.J.Ask.is_type l.judge) l.founds.items;
    }
