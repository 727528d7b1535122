use Rattle.std.proofs.Common.{◌≡◌, ◌+◌, ◌*◌, ◌++◌, map, drop}
use Rattle.go_tree.specs.Tree.{tree_of, trees_of, node_count, node_count_of_all}
use Rattle.go_form.specs.Unbuilt.{unbuilt_each}
use Rattle.go_form.proofs.unbuilt.+unbuilt.Given as goal

abbrev pub decreases-unbuilt_as : goal.decreases-unbuilt_as
decreases-unbuilt_as l = 5 * node_count (tree_of l.node.now) + 4

abbrev pub decreases-unbuilt_parts : goal.decreases-unbuilt_parts
decreases-unbuilt_parts l = 5 * node_count (tree_of l.node.now) + 3

abbrev pub decreases-one : goal.decreases-one
decreases-one l = 5 * node_count (tree_of l.node.now) + 1

abbrev pub decreases-two : goal.decreases-two
decreases-two l = 5 * node_count (tree_of l.node.now) + 1

abbrev pub decreases-three : goal.decreases-three
decreases-three l = 5 * node_count (tree_of l.node.now) + 1

abbrev pub decreases-each : goal.decreases-each
decreases-each l = 5 * node_count_of_all (trees_of (map tree_of l.nodes.now)) + 5

abbrev pub decreases-one_and_each : goal.decreases-one_and_each
decreases-one_and_each l = 5 * node_count (tree_of l.node.now) + 1

abbrev pub decreases-names_and_type : goal.decreases-names_and_type
decreases-names_and_type l = 5 * node_count (tree_of l.node.now) + 1

abbrev pub decreases-behind_name : goal.decreases-behind_name
decreases-behind_name l = 5 * node_count_of_all (trees_of (map tree_of l.parts.now)) + 6

abbrev pub invariant-each-loop-node : goal.invariant-each-loop-node
invariant-each-loop-node l =
    l.found.items ++ unbuilt_each l.role (trees_of (map tree_of (drop l.node-index l.nodes))) ≡ l.fn.found.items ++ unbuilt_each l.role (trees_of (map tree_of l.nodes))
