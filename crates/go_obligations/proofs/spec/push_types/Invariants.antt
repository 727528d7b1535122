use Rattle.std.proofs.Common.{◌≡◌, ◌++◌, drop, map}
use Rattle.go_tree.specs.Tree.{tree_of}
use Rattle.go_obligations.specs.Owed.{AreOwnObligations, owed_by_types, owed_view}
use Rattle.go_obligations.specs.Read.{outcome_read}
use Rattle.go_obligations.proofs.spec.push_types.Given as goal

-- what is pushed, with what is demanded of the types left, is what is demanded of all types
abbrev pub invariant-loop-node : goal.invariant-loop-node
invariant-loop-node g l =
    let read = outcome_read (g.W.Ask.outcomes l.walks) in
    record {
      own : AreOwnObligations (g.W.Ask.is_type l.walks) l.owed.items;
      owed : owed_view (g.W.Ask.tree l.walks) l.owed.items ++ owed_by_types read l.spec.file l.spec.told_at (map tree_of (drop l.node-index l.types)) ≡ owed_view (g.W.Ask.tree l.walks) l.fn.owed.items ++ owed_by_types read l.spec.file l.spec.told_at (map tree_of l.types);
    }
