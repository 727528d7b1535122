use Rattle.std.proofs.Common.{◌≡◌, map, drop}
use Rattle.go_tree.specs.Tree.{tree_of, trees_of}
use Rattle.go_form.specs.Families.Statements.{some_has_several}
use Rattle.go_form.proofs.statements.some_has_several.Given as goal

abbrev pub invariant-loop-node : goal.invariant-loop-node
invariant-loop-node l =
    some_has_several (trees_of (map tree_of (drop l.node-index l.nodes))) ≡ some_has_several (trees_of (map tree_of l.nodes))
