use Rattle.std.proofs.Common.{◌≡◌, [], map, drop}
use Rattle.indexmap.specs.IndexMap.{insert_all}
use Rattle.go_module.specs.Scopes.{same_object}
use Rattle.go_module.specs.Modules.Module.{package_view}
use Rattle.go_report.specs.Outline.{declared_in_packages}
use Rattle.go_check.proofs.declared.declared_objects.Given as goal

-- the table, with the declarations of the packages left, is that of all packages
abbrev pub invariant-loop-place : goal.invariant-loop-place
invariant-loop-place l =
    insert_all same_object l.table.entries (declared_in_packages l.place (map package_view (drop l.place l.module.packages.items))) ≡ insert_all same_object [] (declared_in_packages 0 (map package_view l.module.packages.items))
