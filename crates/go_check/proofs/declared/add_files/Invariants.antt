use Rattle.std.proofs.Common.{◌≡◌, drop}
use Rattle.indexmap.specs.IndexMap.{insert_all}
use Rattle.go_module.specs.Scopes.{same_object}
use Rattle.std.specs.List.{flat_map}
use Rattle.go_check.specs.Lines.Found.{declared_in_file, own_files_view}
use Rattle.go_check.proofs.declared.add_files.Given as goal

-- the table, with the declarations of the files left, is that with those of all files
abbrev pub invariant-loop-file : goal.invariant-loop-file
invariant-loop-file l =
    insert_all same_object l.table.entries (flat_map (declared_in_file l.place) (own_files_view (drop l.file-index l.files))) ≡ insert_all same_object l.fn.table.entries (flat_map (declared_in_file l.place) (own_files_view l.files))
