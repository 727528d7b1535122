use Rattle.std.proofs.Common.{◌≡◌, ◌++◌, map, drop}
use Rattle.std.specs.List.{flat_map}
use Rattle.go_tree.specs.Tree.{tree_of}
use Rattle.go_form.specs.Families.Declarations.{generic_spec}
use Rattle.go_form.proofs.declarations.push_generic_specs.Given as goal

abbrev pub invariant-loop-spec : goal.invariant-loop-spec
invariant-loop-spec l =
    l.found.items ++ flat_map generic_spec (map tree_of (drop l.spec-index l.spec-items)) ≡ l.fn.found.items ++ flat_map generic_spec (map tree_of l.spec-items)
