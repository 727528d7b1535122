use Rattle.std.proofs.Common.{map, take}
use Rattle.go_tree.specs.Tree.{tree_of}
use Rattle.go_load.specs.Packages.Trees.{AddsImports}
use Rattle.go_load.proofs.tree_heads.add_specs.Given as goal

-- the imports added so far are those of the first specs
abbrev pub invariant-loop-spec : goal.invariant-loop-spec
invariant-loop-spec l = AddsImports (map tree_of (take l.spec-index l.specs)) l.fn.imports.items l.imports.items
