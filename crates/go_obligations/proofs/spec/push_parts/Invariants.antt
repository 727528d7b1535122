use Rattle.std.proofs.Common.{◌≡◌, ◌++◌, drop, map}
use Rattle.std.specs.List.{flat_map}
use Rattle.go_tree.specs.Tree.{tree_of}
use Rattle.go_operands.specs.Operands.{expressions_in}
use Rattle.go_obligations.specs.Owed.{AreOwnObligations, owed_by_node, owed_view}
use Rattle.go_obligations.specs.Read.{outcome_read}
use Rattle.go_obligations.proofs.spec.push_parts.Given as goal

-- what is pushed, with what is demanded in the parts left, is what is demanded in all parts
abbrev pub invariant-loop-node : goal.invariant-loop-node
invariant-loop-node g l =
    let read = outcome_read (g.W.Ask.outcomes l.walks) in
    record {
      own : AreOwnObligations (g.W.Ask.is_type l.walks) l.owed.items;
      owed : owed_view (g.W.Ask.tree l.walks) l.owed.items ++ flat_map (owed_by_node read l.spec.file l.spec.told_at) (flat_map expressions_in (map tree_of (drop l.node-index l.nodes))) ≡ owed_view (g.W.Ask.tree l.walks) l.fn.owed.items ++ flat_map (owed_by_node read l.spec.file l.spec.told_at) (flat_map expressions_in (map tree_of l.nodes));
    }
