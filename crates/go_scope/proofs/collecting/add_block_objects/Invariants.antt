use Rattle.std.proofs.Common.{◌≡◌, take}
use Rattle.std.specs.List.{flat_map}
use Rattle.indexmap.specs.IndexMap.{insert_all}
use Rattle.go_module.specs.Names.PackageBlock.{region_entries}
use Rattle.go_module.specs.Scopes.{same_object}
use Rattle.go_scope.proofs.collecting.add_block_objects.Given as goal

abbrev pub invariant-loop-block : goal.invariant-loop-block
invariant-loop-block l = l.objects.entries ≡ insert_all same_object l.fn.objects.entries (region_entries (flat_map (λ b. b.regions.items) (take l.block-index l.blocks)))
