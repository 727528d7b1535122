use Rattle.std.proofs.Common.{◌≡◌, ◌++◌, map, drop}
use Rattle.go_tree.specs.Tree.{tree_of, trees_of}
use Rattle.go_form.specs.Families.Statements.{second_guard_names_at}
use Rattle.go_form.proofs.statements.push_second_guard_names.Given as goal

abbrev pub invariant-loop-node : goal.invariant-loop-node
invariant-loop-node l =
    l.found.items ++ second_guard_names_at (trees_of (map tree_of (drop l.node-index l.nodes))) ≡ l.fn.found.items ++ second_guard_names_at (trees_of (map tree_of l.nodes))
