use Rattle.std.proofs.Common.{◌≡◌, ◌++◌, map, drop}
use Rattle.std.specs.List.{flat_map}
use Rattle.go_tree.specs.Tree.{tree_of}
use Rattle.go_module.specs.Names.Declarations as rule
use Rattle.go_names.specs.Views.{specs_view}
use Rattle.go_names.proofs.spec.specs_in_file.Given as goal

-- what is pushed, with the specs in the declarations left, are those in all declarations
abbrev pub invariant-loop-declaration : goal.invariant-loop-declaration
invariant-loop-declaration l =
    specs_view l.specs.items ++ flat_map (rule.specs_in l.file) (map tree_of (drop l.declaration-index l.declaration-items)) ≡ flat_map (rule.specs_in l.file) (map tree_of l.declaration-items)
