use Rattle.std.proofs.Common.{◌≡◌, ◌++◌, map, drop}
use Rattle.go_tree.specs.Tree.{tree_of}
use Rattle.go_names.specs.Views.{trees_at}
use Rattle.go_operands.proofs.operands.push_all.Given as goal

-- what is pushed, with the nodes left, are all nodes
abbrev pub invariant-loop-node : goal.invariant-loop-node
invariant-loop-node l = trees_at l.list.items ++ map tree_of (drop l.node-index l.nodes) ≡ trees_at l.fn.list.items ++ map tree_of l.nodes
