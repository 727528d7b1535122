use Rattle.std.proofs.Common.{◌≡◌, ◌++◌, map, drop}
use Rattle.std.specs.List.{flat_map}
use Rattle.go_tree.specs.Tree.{tree_of}
use Rattle.go_form.specs.Families.Declarations.{open_array_place}
use Rattle.go_form.proofs.declarations.push_open_arrays.Given as goal

abbrev pub invariant-loop-part : goal.invariant-loop-part
invariant-loop-part l =
    l.found.items ++ flat_map open_array_place (map tree_of (drop l.part-index l.parts)) ≡ l.fn.found.items ++ flat_map open_array_place (map tree_of l.parts)
