use Rattle.std.proofs.Common.{◌≡◌, ◌++◌, map, drop}
use Rattle.go_module.specs.Modules.Module.{file_view}
use Rattle.go_module.specs.Names.Imports as rule
use Rattle.go_scope.specs.Blocks.{block_data, block_of}
use Rattle.go_scope.specs.Known.{known_by}
use Rattle.go_scope.proofs.file_block.file_blocks.Given as goal

-- the blocks so far, with those of the files left, are those of all files
abbrev pub invariant-loop-i : goal.invariant-loop-i
invariant-loop-i l =
    map block_of l.blocks.items ++ map (block_data (known_by l.before)) (rule.imports_from l.importer l.i (map file_view (drop l.i l.files)) l.rest) ≡ map (block_data (known_by l.before)) (rule.imports_from l.importer 0 (map file_view l.files) l.packages)
