use Rattle.std.proofs.Common.{◌≡◌, ◌++◌, map, drop}
use Rattle.std.specs.List.{flat_map}
use Rattle.go_tree.specs.Tree.{tree_of}
use Rattle.go_form.specs.Families.Declarations.{generic_spec, type_specs}
use Rattle.go_form.proofs.declarations.local_generic_types.Given as goal

abbrev pub invariant-loop-part : goal.invariant-loop-part
invariant-loop-part l =
    l.found.items ++ flat_map (λ declared. flat_map generic_spec (type_specs declared)) (map tree_of (drop l.part-index l.part-items)) ≡ l.fn.found.items ++ flat_map (λ declared. flat_map generic_spec (type_specs declared)) (map tree_of l.part-items)
