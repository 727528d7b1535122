use Rattle.std.proofs.Common.{◌≡◌, ◌++◌, ◌+◌, ◌*◌, map, drop}
use Rattle.go_tree.specs.Tree.{tree_of, trees_of, node_count, node_count_of_all}
use Rattle.go_cycles.specs.Leading.{names_in_each}
use Rattle.go_cycles.proofs.leading.+push_names_in.Given as goal

abbrev pub decreases-push_names_in : goal.decreases-push_names_in
decreases-push_names_in l = 2 * node_count (tree_of l.node.now)

abbrev pub decreases-push_names_in_each : goal.decreases-push_names_in_each
decreases-push_names_in_each l = 2 * node_count_of_all (trees_of (map tree_of l.nodes.now)) + 1

-- the names so far, with those of the types left, are those of all
abbrev pub invariant-push_names_in_each-loop-node : goal.invariant-push_names_in_each-loop-node
invariant-push_names_in_each-loop-node l =
    l.names.items ++ names_in_each l.way (trees_of (map tree_of (drop l.node-index l.nodes))) ≡ l.fn.names.items ++ names_in_each l.way (trees_of (map tree_of l.nodes))
