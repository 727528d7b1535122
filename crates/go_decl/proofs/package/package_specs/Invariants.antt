use Rattle.std.proofs.Common.{◌≡◌, ◌++◌, map, drop}
use Rattle.go_module.specs.Modules.Module.{file_view}
use Rattle.go_module.specs.Names.Declarations.{specs_from}
use Rattle.go_names.specs.Views.{specs_view}
use Rattle.go_decl.proofs.package.package_specs.Given as goal

-- the specs so far, with those of the files left, are all specs
abbrev pub invariant-loop-place : goal.invariant-loop-place
invariant-loop-place l =
    specs_view l.specs.items ++ specs_from l.place (map file_view (drop l.place l.own.files.items)) ≡ specs_from 0 (map file_view l.own.files.items)
