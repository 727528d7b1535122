use Rattle.std.proofs.Common.{map, take}
use Rattle.std.specs.List.{flat_map}
use Rattle.go_tree.specs.Tree.{tree_of}
use Rattle.go_module.specs.Modules.Heads.{AreImports, specs_in}
use Rattle.go_load.proofs.tree_heads.imports_in.Given as goal

-- the imports so far are those of the first declarations
abbrev pub invariant-loop-declaration : goal.invariant-loop-declaration
invariant-loop-declaration l = AreImports (flat_map specs_in (map tree_of (take l.declaration-index l.declaration-items))) l.imports.items
