use Rattle.std.proofs.Common.{◌≡◌, ◌++◌, map, drop}
use Rattle.go_module.specs.Modules.Module.{file_view}
use Rattle.go_names.specs.Views.{specs_by_file, specs_view}
use Rattle.go_names.proofs.spec.specs_of.Given as goal

-- what is pushed, with the specs of the files left, are those of all files
abbrev pub invariant-loop-file : goal.invariant-loop-file
invariant-loop-file l =
    map (λ list. specs_view list.items) l.lists.items ++ specs_by_file l.file (map file_view (drop l.file l.files)) ≡ specs_by_file 0 (map file_view l.files)
