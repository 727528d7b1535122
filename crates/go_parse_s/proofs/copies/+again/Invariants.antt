use Rattle.std.proofs.Common.{◌≡◌, ◌+◌, ◌*◌, ◌++◌, map, drop}
use Rattle.go_tree.specs.Tree.{tree_of, trees_of, node_count, node_count_of_all}
use Rattle.go_parse_s.proofs.copies.+again.Given as goal

abbrev pub decreases-again : goal.decreases-again
decreases-again l = 2 * node_count (tree_of l.node.now)

abbrev pub decreases-all_again : goal.decreases-all_again
decreases-all_again l = 2 * node_count_of_all (trees_of (map tree_of l.nodes.now)) + 1

abbrev pub invariant-all_again-loop-node : goal.invariant-all_again-loop-node
invariant-all_again-loop-node l = map tree_of l.copies.items ++ map tree_of (drop l.node-index l.nodes) ≡ map tree_of l.nodes
