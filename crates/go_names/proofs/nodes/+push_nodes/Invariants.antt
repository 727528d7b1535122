use Rattle.std.proofs.Common.{◌≡◌, ◌∷◌, ◌++◌, drop}
use Rattle.std.specs.List.{flat_map}
use Rattle.go_module.specs.Names.Occurrences.{nodes_in}
use Rattle.go_names.specs.Views.{trees_at}
use Rattle.go_tree.specs.Tree.{tree_of, node_count}
use Rattle.go_names.proofs.nodes.+push_nodes.Given as goal

abbrev pub decreases-push_nodes : goal.decreases-push_nodes
decreases-push_nodes l = node_count (tree_of l.node.now)

-- what is pushed, with the nodes of the parts left, are the node and those of its parts
abbrev pub invariant-loop-part : goal.invariant-loop-part
invariant-loop-part l =
    trees_at l.list.items ++ flat_map nodes_in (trees_at (drop l.part-index l.part-items)) ≡ trees_at l.fn.list.items ++ (tree_of l.node ∷ flat_map nodes_in (trees_at l.part-items))
