use Rattle.std.proofs.Common.{◌≡◌, ◌++◌, map, drop}
use Rattle.go_tree.specs.Tree.{tree_of, trees_of}
use Rattle.go_form.specs.Families.Guards.{guards_of_lists}
use Rattle.go_form.proofs.guards.push_of_lists.Given as goal

abbrev pub invariant-loop-list : goal.invariant-loop-list
invariant-loop-list l =
    l.found.items ++ guards_of_lists (trees_of (map tree_of (drop l.list-index l.lists))) ≡ l.fn.found.items ++ guards_of_lists (trees_of (map tree_of l.lists))
