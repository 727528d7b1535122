use Rattle.std.proofs.Common.{◌≡◌, ◌+◌, ◌*◌, map}
use Rattle.go_tree.specs.Tree.{tree_of, trees_of, node_count, node_count_of_all}
use Rattle.go_text.specs.Numbers.{numbered}
use Rattle.go_parse_s.proofs.WalkLemmas.{trees_behind, seen_behind, count_on}
use Rattle.go_parse_s.proofs.numbers.+number.Given as goal

abbrev pub decreases-number_nodes : goal.decreases-number_nodes
decreases-number_nodes l = 2 * node_count (tree_of l.node.now)

abbrev pub decreases-number_all : goal.decreases-number_all
decreases-number_all l = 2 * node_count_of_all (trees_of (map tree_of l.parts.now)) + 1

abbrev pub invariant-number_all-loop-part : goal.invariant-number_all-loop-part
invariant-number_all-loop-part l =
    goal.unvisited-number_all-loop-part l
    × (trees_behind numbered count_on l.part-index l.number l.parts ≡ trees_behind numbered count_on 0 l.fn.number l.fn.parts)
    × (seen_behind count_on l.part-index l.number l.parts ≡ seen_behind count_on 0 l.fn.number l.fn.parts)
