use Rattle.std.proofs.Common.{◌≡◌, map, drop}
use Rattle.indexmap.specs.IndexMap.{insert_all}
use Rattle.go_module.specs.Scopes.{same_object}
use Rattle.go_module.specs.Modules.Module.{file_view}
use Rattle.go_module.specs.NodeParts.{first_part}
use Rattle.go_report.specs.Outline.{declared_by}
use Rattle.go_names.specs.Views.{trees_at}
use Rattle.go_check.proofs.declared.add_imports.Given as goal

-- the table, with the declarations of the specs left, is that with those of all specs
abbrev pub invariant-loop-spec : goal.invariant-loop-spec
invariant-loop-spec l =
    insert_all same_object l.table.entries (map (declared_by l.place l.file.stub (file_view l.file.file.now)) (map first_part (trees_at (drop l.spec-index l.specs)))) ≡ insert_all same_object l.fn.table.entries (map (declared_by l.place l.file.stub (file_view l.file.file.now)) (map first_part (trees_at l.specs)))
