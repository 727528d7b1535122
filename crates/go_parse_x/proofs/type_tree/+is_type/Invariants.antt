use Rattle.std.proofs.Common.{◌≡◌, ◌+◌, ◌*◌, map, drop}
use Rattle.go_tree.specs.Tree.{tree_of, trees_of, node_count, node_count_of_all}
use Rattle.go_tree.specs.Grammar.Trees.TypeTrees.{all_types}
use Rattle.go_parse_x.specs.Tables.Opened.{all_unnumbered}
use Rattle.go_parse_x.proofs.type_tree.+is_type.Given as goal

abbrev pub decreases-is_type : goal.decreases-is_type
decreases-is_type l = 3 * node_count (tree_of l.node.now)

abbrev pub decreases-is_channel : goal.decreases-is_channel
decreases-is_channel l = 3 * node_count (tree_of l.node.now)

abbrev pub decreases-is_instance : goal.decreases-is_instance
decreases-is_instance l = 3 * node_count_of_all (trees_of (map tree_of l.nodes.now)) + 2

abbrev pub decreases-first_is_channel : goal.decreases-first_is_channel
decreases-first_is_channel l = 3 * node_count_of_all (trees_of (map tree_of l.nodes.now)) + 2

abbrev pub decreases-all_types : goal.decreases-all_types
decreases-all_types l = 3 * node_count_of_all (trees_of (map tree_of l.nodes.now)) + 1

abbrev pub invariant-all_types-loop-node : goal.invariant-all_types-loop-node
invariant-all_types-loop-node l = all_types (all_unnumbered (trees_of (map tree_of (drop l.node-index l.nodes)))) ≡ all_types (all_unnumbered (trees_of (map tree_of l.nodes)))
