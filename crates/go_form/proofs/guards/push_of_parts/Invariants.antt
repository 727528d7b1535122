use Rattle.std.proofs.Common.{◌≡◌, ◌++◌, map, drop}
use Rattle.go_tree.specs.Tree.{tree_of, trees_of}
use Rattle.go_form.specs.Families.Guards.{guards_of_parts}
use Rattle.go_form.proofs.guards.push_of_parts.Given as goal

abbrev pub invariant-loop-part : goal.invariant-loop-part
invariant-loop-part l =
    l.found.items ++ guards_of_parts l.outer (trees_of (map tree_of (drop l.part-index l.nodes))) ≡ l.fn.found.items ++ guards_of_parts l.outer (trees_of (map tree_of l.nodes))
