use Rattle.std.proofs.Common.{◌≡◌, ◌++◌, drop}
use Rattle.std.specs.List.{flat_map}
use Rattle.go_names.specs.Views.{trees_at}
use Rattle.go_obligations.specs.Owed.{AreOwnObligations, owed_by_node, owed_view}
use Rattle.go_obligations.specs.Read.{outcome_read}
use Rattle.go_obligations.proofs.spec.push_part.Given as goal

-- what is pushed, with what is demanded in the nodes left, is what is demanded in all nodes
abbrev pub invariant-loop-inner : goal.invariant-loop-inner
invariant-loop-inner g l =
    let read = outcome_read (g.W.Ask.outcomes l.walks) in
    record {
      own : AreOwnObligations (g.W.Ask.is_type l.walks) l.owed.items;
      owed : owed_view (g.W.Ask.tree l.walks) l.owed.items ++ flat_map (owed_by_node read l.spec.file l.spec.told_at) (trees_at (drop l.inner-index l.inner-items)) ≡ owed_view (g.W.Ask.tree l.walks) l.fn.owed.items ++ flat_map (owed_by_node read l.spec.file l.spec.told_at) (trees_at l.inner-items);
    }
