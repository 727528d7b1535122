use Rattle.std.proofs.Common.{◌≡◌, ◌++◌, map, drop}
use Rattle.std.specs.List.{flat_map}
use Rattle.go_tree.specs.Tree.{tree_of}
use Rattle.go_module.specs.Modules.Heads as heads
use Rattle.go_names.specs.Views.{trees_at}
use Rattle.go_names.proofs.imports.import_specs.Given as goal

-- what is pushed, with the specs in the declarations left, are those in all declarations
abbrev pub invariant-loop-declaration : goal.invariant-loop-declaration
invariant-loop-declaration l =
    trees_at l.specs.items ++ flat_map heads.specs_in (map tree_of (drop l.declaration-index l.declaration-items)) ≡ flat_map heads.specs_in (map tree_of l.declaration-items)
