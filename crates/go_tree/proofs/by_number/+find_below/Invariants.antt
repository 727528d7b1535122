use Rattle.std.proofs.Common.{◌≡◌, ◌+◌, ◌*◌, map, drop}
use Rattle.go_tree.specs.Tree.{tree_of, trees_of, node_count, node_count_of_all}
use Rattle.go_tree.specs.Find.{found_among}
use Rattle.go_tree.proofs.by_number.+find_below.Given as goal

abbrev pub decreases-find_below : goal.decreases-find_below
decreases-find_below l = 2 * node_count (tree_of l.node.now)

abbrev pub decreases-find_among : goal.decreases-find_among
decreases-find_among l = 2 * node_count_of_all (trees_of (map tree_of l.nodes.now)) + 1

abbrev pub invariant-find_among-loop-node : goal.invariant-find_among-loop-node
invariant-find_among-loop-node l = found_among l.id.0 (trees_of (map tree_of (drop l.node-index l.nodes))) ≡ found_among l.id.0 (trees_of (map tree_of l.nodes))
