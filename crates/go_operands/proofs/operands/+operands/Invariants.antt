use Rattle.std.proofs.Common.{◌≡◌, ◌+◌, ◌*◌, ◌++◌, drop}
use Rattle.std.specs.List.{flat_map}
use Rattle.go_names.specs.Views.{trees_at}
use Rattle.go_operands.specs.Operands.{operands_from}
use Rattle.go_tree.specs.Tree.{tree_of, kind_of, node_count}
use Rattle.go_operands.proofs.operands.+operands.Given as goal

abbrev pub decreases-push_operands : goal.decreases-push_operands
decreases-push_operands l = 3 * node_count (tree_of l.node.now) + 1

abbrev pub decreases-push_handed : goal.decreases-push_handed
decreases-push_handed l = 3 * node_count (tree_of l.part.now) + 3

abbrev pub decreases-push_held : goal.decreases-push_held
decreases-push_held l = 3 * node_count (tree_of l.node.now) + 2

-- what is pushed, with what the parts left hand up, is what all parts hand up
abbrev pub invariant-push_operands-loop-part : goal.invariant-push_operands-loop-part
invariant-push_operands-loop-part l =
    trees_at l.list.items ++ flat_map (operands_from (kind_of (tree_of l.node))) (trees_at (drop l.part-index l.part-items)) ≡ trees_at l.fn.list.items ++ flat_map (operands_from (kind_of (tree_of l.node))) (trees_at l.part-items)
