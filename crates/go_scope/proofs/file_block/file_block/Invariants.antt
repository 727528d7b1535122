use Rattle.std.proofs.Common.{◌≡◌, ◌++◌, drop}
use Rattle.std.specs.List.{flat_map}
use Rattle.go_module.specs.Names.Imports as rule
use Rattle.go_names.specs.Views.{trees_at}
use Rattle.go_scope.specs.Known.{known_by}
use Rattle.go_scope.proofs.file_block.file_block.Given as goal

-- what is pushed, with what the imports left make, is what all imports make
abbrev pub invariant-loop-i : goal.invariant-loop-i
invariant-loop-i l = record {
  regions_are : l.regions.items ++ rule.file_block (known_by l.before) (rule.imports_in l.importer l.file (trees_at (drop l.i l.specs)) (drop l.i l.packages)) ≡ rule.file_block (known_by l.before) (rule.imports_in l.importer l.file (trees_at l.specs) l.packages);
  imports_are : l.imports.items ++ flat_map rule.import_of (rule.imports_in l.importer l.file (trees_at (drop l.i l.specs)) (drop l.i l.packages)) ≡ flat_map rule.import_of (rule.imports_in l.importer l.file (trees_at l.specs) l.packages);
}
