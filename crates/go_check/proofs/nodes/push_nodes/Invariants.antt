use Rattle.std.proofs.Common.{◌≡◌, ◌++◌, map, drop}
use Rattle.std.specs.List.{flat_map}
use Rattle.go_tree.specs.Tree.{tree_of}
use Rattle.go_operands.specs.Operands.{expressions_in}
use Rattle.go_names.specs.Views.{trees_at}
use Rattle.go_check.proofs.nodes.push_nodes.Given as goal

-- what is pushed, with what stands in the nodes left, is what stands in all
abbrev pub invariant-loop-node : goal.invariant-loop-node
invariant-loop-node l =
    trees_at l.list.items ++ flat_map expressions_in (map tree_of (drop l.node-index l.nodes)) ≡ trees_at l.fn.list.items ++ flat_map expressions_in (map tree_of l.nodes)
