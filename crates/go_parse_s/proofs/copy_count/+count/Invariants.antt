use Rattle.std.proofs.Common.{◌≡◌, ◌+◌, ◌*◌, ◌++◌, List, map, drop}
use Rattle.go_tree.specs.Tree.{Tree, Trees, no_trees, tree_of, trees_of, list_of, node_count, node_count_of_all}
use Rattle.go_text.specs.Copies.{all_with_copies, specs_with_copies}
use Rattle.go_parse_s.specs.Counted.{capped, AreCountsOfAll}
use Rattle.go_parse_s.proofs.copy_count.+count.Given as goal

abbrev pub decreases-count : goal.decreases-count
decreases-count l = 2 * node_count (tree_of l.node.now)

abbrev pub decreases-count_all : goal.decreases-count_all
decreases-count_all l = 2 * node_count_of_all (trees_of (map tree_of l.parts.now)) + 1

abbrev pub decreases-count_specs : goal.decreases-count_specs
decreases-count_specs l = 2 * node_count_of_all (trees_of (map tree_of l.specs.now)) + 1

-- the parts so far, with their copies, and all of them
abbrev pub invariant-count_all-loop-part : goal.invariant-count_all-loop-part
invariant-count_all-loop-part l =
    (done : List Tree)
    × AreCountsOfAll l.all (trees_of done)
    × (done ++ list_of (all_with_copies (trees_of (map tree_of (drop l.part-index l.parts)))) ≡ list_of (all_with_copies (trees_of (map tree_of l.parts))))

-- the specs so far, and the list before the next one
abbrev pub invariant-count_specs-loop-spec : goal.invariant-count_specs-loop-spec
invariant-count_specs-loop-spec l =
    (done : List Tree)
    × (before : Trees)
    × AreCountsOfAll l.all (trees_of done)
    × (l.list ≡ capped (node_count_of_all before))
    × (done ++ list_of (specs_with_copies before (trees_of (map tree_of (drop l.spec-index l.specs)))) ≡ list_of (specs_with_copies no_trees (trees_of (map tree_of l.specs))))
