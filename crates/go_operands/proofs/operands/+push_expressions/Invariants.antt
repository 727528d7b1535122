use Rattle.std.proofs.Common.{◌≡◌, ◌∷◌, ◌++◌, drop}
use Rattle.std.specs.List.{flat_map}
use Rattle.go_names.specs.Views.{trees_at}
use Rattle.go_operands.specs.Operands.{expressions_in}
use Rattle.go_tree.specs.Tree.{tree_of, node_count}
use Rattle.go_operands.proofs.operands.+push_expressions.Given as goal

abbrev pub decreases-push_expressions : goal.decreases-push_expressions
decreases-push_expressions l = node_count (tree_of l.node.now)

-- what is pushed, with what stands in the operands left, is the node and what stands in all operands
abbrev pub invariant-loop-operand : goal.invariant-loop-operand
invariant-loop-operand l =
    trees_at l.list.items ++ flat_map expressions_in (trees_at (drop l.operand-index l.operand-items)) ≡ trees_at l.fn.list.items ++ (tree_of l.node ∷ flat_map expressions_in (trees_at l.operand-items))
