use Rattle.std.proofs.Common.{◌≡◌, ◌++◌, map, drop}
use Rattle.go_module.specs.Modules.Module.{file_view}
use Rattle.go_check.specs.Lines.Found.{own_files_from, own_files_view}
use Rattle.go_check.proofs.own_file.own_files.Given as goal

-- the files so far, with those left, are all files
abbrev pub invariant-loop-place : goal.invariant-loop-place
invariant-loop-place l =
    own_files_view l.files.items ++ own_files_from l.own.stub l.place (map file_view (drop l.place l.own.files.items)) l.packages ≡ own_files_from l.own.stub 0 (map file_view l.own.files.items) l.own.imports.items
