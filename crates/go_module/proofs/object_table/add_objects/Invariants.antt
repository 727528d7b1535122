use Rattle.std.proofs.Common.{◌≡◌, take}
use Rattle.indexmap.specs.IndexMap.{insert_all}
use Rattle.go_module.specs.Names.PackageBlock.{region_entries}
use Rattle.go_module.specs.Scopes.{same_object}
use Rattle.go_module.proofs.object_table.add_objects.Given as goal

abbrev pub invariant-loop-region : goal.invariant-loop-region
invariant-loop-region l = l.objects.entries ≡ insert_all same_object l.initial.objects.entries (region_entries (take l.region-index l.regions))
