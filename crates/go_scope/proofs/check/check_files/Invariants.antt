use Rattle.std.proofs.Common.{◌≡◌, ◌++◌, map, drop}
use Rattle.go_module.specs.Modules.Module.{file_view}
use Rattle.go_names.specs.Views.{specs_view}
use Rattle.go_scope.specs.Blocks.{block_of}
use Rattle.go_scope.specs.Checked.{broken_from, resolved_from}
use Rattle.go_scope.specs.Known.{known_by}
use Rattle.go_scope.proofs.check.check_files.Given as goal

-- what is found of the files so far, and what those that are left add, is the whole
abbrev pub invariant-loop-i : goal.invariant-loop-i
invariant-loop-i l = record {
  resolved : map (λ list. list.items) l.lists.items ++ resolved_from l.around.universe l.around.block (map block_of (drop l.i l.blocks)) (map (λ list. specs_view list.items) (drop l.i l.specs))
      ≡ resolved_from l.around.universe l.around.block (map block_of l.blocks) (map (λ list. specs_view list.items) l.specs);
  found : l.found.items ++ broken_from (known_by l.before) l.is_main l.around.universe l.around.block l.i (map block_of (drop l.i l.blocks)) (map file_view (drop l.i l.files)) (map (λ list. specs_view list.items) (drop l.i l.specs))
      ≡ l.fn.found.items ++ broken_from (known_by l.before) l.is_main l.around.universe l.around.block 0 (map block_of l.blocks) (map file_view l.files) (map (λ list. specs_view list.items) l.specs);
}
