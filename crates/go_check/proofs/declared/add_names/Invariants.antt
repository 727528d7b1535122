use Rattle.std.proofs.Common.{◌≡◌, map, drop}
use Rattle.indexmap.specs.IndexMap.{insert_all}
use Rattle.go_module.specs.Scopes.{same_object}
use Rattle.go_module.specs.Modules.Module.{file_view}
use Rattle.go_report.specs.Outline.{declared_by}
use Rattle.go_names.specs.Views.{declaration_view}
use Rattle.go_check.proofs.declared.add_names.Given as goal

-- the table, with the declarations left, is that with all declarations
abbrev pub invariant-loop-declaration : goal.invariant-loop-declaration
invariant-loop-declaration l =
    insert_all same_object l.table.entries (map (declared_by l.place l.file.stub (file_view l.file.file.now)) (map (λ d. (declaration_view d).name) (drop l.declaration-index l.declarations))) ≡ insert_all same_object l.fn.table.entries (map (declared_by l.place l.file.stub (file_view l.file.file.now)) (map (λ d. (declaration_view d).name) l.declarations))
