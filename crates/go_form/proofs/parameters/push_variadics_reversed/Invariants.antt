use Rattle.std.proofs.Common.{◌≡◌, ◌++◌, ◌&&◌, map, drop, reverse}
use Rattle.go_tree.specs.Tree.{tree_of}
use Rattle.go_form.specs.Families.Parameters.{is_variadic, is_none, variadics}
use Rattle.go_form.proofs.parameters.push_variadics_reversed.Given as goal

abbrev pub invariant-loop-place : goal.invariant-loop-place
invariant-loop-place l =
    (l.variadic ≡ is_variadic l.named (map tree_of (drop l.place l.params)))
    × (l.may ≡ (l.fn.last_may && is_none (map tree_of (drop l.place l.params))))
    × (l.found.items ≡ l.fn.found.items ++ reverse (variadics l.fn.last_may l.named (map tree_of (drop l.place l.params))))
