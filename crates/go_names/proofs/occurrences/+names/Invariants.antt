use Rattle.std.proofs.Common.{◌≡◌, ◌+◌, ◌*◌, ◌++◌, drop}
use Rattle.std.specs.List.{flat_map}
use Rattle.go_tree.specs.Tree.{tree_of, node_count}
use Rattle.go_module.specs.Names.Occurrences as rule
use Rattle.go_names.specs.Views.{trees_at}
use Rattle.go_names.proofs.occurrences.+names.Given as goal

abbrev pub decreases-add_names : goal.decreases-add_names
decreases-add_names l = 3 * node_count (tree_of l.node.now) + 2

abbrev pub decreases-add_operand : goal.decreases-add_operand
decreases-add_operand l = 3 * node_count (tree_of l.operand.now) + 3

abbrev pub decreases-add_inner : goal.decreases-add_inner
decreases-add_inner l = 3 * node_count (tree_of l.node.now) + 1

-- what is found, with what occurs in the parts left, occurs in all parts
abbrev pub invariant-add_inner-loop-part : goal.invariant-add_inner-loop-part
invariant-add_inner-loop-part l =
    l.found.items ++ flat_map (rule.names_in l.file l.told_at) (trees_at (drop l.part-index l.part-items)) ≡ l.fn.found.items ++ flat_map (rule.names_in l.file l.told_at) (trees_at l.part-items)
