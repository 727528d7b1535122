use Rattle.std.proofs.Common.{◌+◌, ◌*◌, map}
use Rattle.go_tree.specs.Tree.{tree_of, trees_of, node_count, node_count_of_all}
use Rattle.go_parse_tests.proofs.piece_tests.+put.Given as goal

abbrev pub decreases-put : goal.decreases-put
decreases-put l = 2 * node_count (tree_of l.node.now)

abbrev pub decreases-put_parts : goal.decreases-put_parts
decreases-put_parts l = 2 * node_count_of_all (trees_of (map tree_of l.parts.now)) + 1
