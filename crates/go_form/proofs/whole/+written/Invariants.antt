use Rattle.std.proofs.Common.{◌≡◌, ◌+◌, ◌*◌, ◌++◌, map, drop}
use Rattle.std.specs.List.{flat_map}
use Rattle.go_tree.specs.Tree.{tree_of, trees_of, node_count, node_count_of_all}
use Rattle.go_form.specs.AtNode.{broken_at_node}
use Rattle.go_form.specs.Whole.{written_among}
use Rattle.go_form.proofs.whole.+written.Given as goal

abbrev pub decreases-broken_in : goal.decreases-broken_in
decreases-broken_in l = 3 * node_count (tree_of l.node.now) + 1

abbrev pub decreases-broken_from : goal.decreases-broken_from
decreases-broken_from l = 3 * node_count (tree_of l.node.now)

abbrev pub decreases-broken_among : goal.decreases-broken_among
decreases-broken_among l = 3 * node_count_of_all (trees_of (map tree_of l.nodes.now)) + 2

abbrev pub invariant-broken_among-loop-node : goal.invariant-broken_among-loop-node
invariant-broken_among-loop-node l =
    l.found.items ++ flat_map (broken_at_node l.file) (written_among (trees_of (map tree_of (drop l.node-index l.nodes)))) ≡ l.fn.found.items ++ flat_map (broken_at_node l.file) (written_among (trees_of (map tree_of l.nodes)))
