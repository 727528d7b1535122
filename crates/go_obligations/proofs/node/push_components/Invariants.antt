use Rattle.std.proofs.Common.{◌≡◌, ◌++◌, drop}
use Rattle.go_names.specs.Views.{trees_at}
use Rattle.go_obligations.specs.Owed.{AreOwnObligations, owed_by_types, owed_view}
use Rattle.go_obligations.specs.Read.{outcome_read}
use Rattle.go_obligations.proofs.node.push_components.Given as goal

-- what is pushed, with what is demanded of the nodes left, is what is demanded of all nodes
abbrev pub invariant-loop-node : goal.invariant-loop-node
invariant-loop-node g l =
    let read = outcome_read (g.W.Ask.outcomes l.walks) in
    record {
      own : AreOwnObligations (g.W.Ask.is_type l.walks) l.owed.items;
      owed : owed_view (g.W.Ask.tree l.walks) l.owed.items ++ owed_by_types read l.spec.file l.spec.told_at (trees_at (drop l.node-index l.nodes)) ≡ owed_view (g.W.Ask.tree l.walks) l.fn.owed.items ++ owed_by_types read l.spec.file l.spec.told_at (trees_at l.nodes);
    }
