use Rattle.std.proofs.Common.{◌≡◌, ◌++◌, map, drop}
use Rattle.std.specs.List.{flat_map}
use Rattle.go_tree.specs.Tree.{tree_of}
use Rattle.go_form.specs.Families.Parameters.{type_params}
use Rattle.go_form.proofs.parameters.push_type_params.Given as goal

abbrev pub invariant-loop-part : goal.invariant-loop-part
invariant-loop-part l =
    l.found.items ++ flat_map type_params (map tree_of (drop l.part-index l.parts)) ≡ l.fn.found.items ++ flat_map type_params (map tree_of l.parts)
