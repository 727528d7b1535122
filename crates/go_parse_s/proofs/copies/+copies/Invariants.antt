use Rattle.std.proofs.Common.{◌≡◌, ◌+◌, ◌*◌, map}
use Rattle.go_tree.specs.Tree.{tree_of, trees_of, no_trees, node_count, node_count_of_all}
use Rattle.go_parse_s.proofs.WalkLemmas.{trees_behind}
use Rattle.go_parse_s.proofs.CopyLemmas.{alone, nothing, in_group, list_after}
use Rattle.go_parse_s.proofs.copies.+copies.Given as goal

abbrev pub decreases-add_copies : goal.decreases-add_copies
decreases-add_copies l = 2 * node_count (tree_of l.node.now)

abbrev pub decreases-add_to_all : goal.decreases-add_to_all
decreases-add_to_all l = 2 * node_count_of_all (trees_of (map tree_of l.parts.now)) + 1

abbrev pub decreases-add_to_specs : goal.decreases-add_to_specs
decreases-add_to_specs l = 2 * node_count_of_all (trees_of (map tree_of l.specs.now)) + 1

abbrev pub invariant-add_to_all-loop-part : goal.invariant-add_to_all-loop-part
invariant-add_to_all-loop-part l =
    goal.unvisited-add_to_all-loop-part l
    × (trees_behind alone nothing l.part-index tt l.parts ≡ trees_behind alone nothing 0 tt l.fn.parts)

abbrev pub invariant-add_to_specs-loop-spec : goal.invariant-add_to_specs-loop-spec
invariant-add_to_specs-loop-spec l =
    goal.unvisited-add_to_specs-loop-spec l
    × (trees_behind in_group list_after l.spec-index (trees_of (map tree_of l.list.items)) l.specs ≡ trees_behind in_group list_after 0 no_trees l.fn.specs)
