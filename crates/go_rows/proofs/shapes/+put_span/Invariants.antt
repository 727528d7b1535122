use Rattle.std.proofs.Common.{◌+◌, ◌*◌, map}
use Rattle.go_tree.specs.Tree.{tree_of, trees_of, node_count, node_count_of_all}
use Rattle.go_rows.proofs.shapes.+put_span.Given as goal

abbrev pub decreases-put_span : goal.decreases-put_span
decreases-put_span l = 2 * node_count (tree_of l.node.now)

abbrev pub decreases-put_spans : goal.decreases-put_spans
decreases-put_spans l = 2 * node_count_of_all (trees_of (map tree_of l.nodes.now)) + 1
