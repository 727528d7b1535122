use Rattle.std.proofs.Common.{◌≡◌, take}
use Rattle.go_module.specs.Names.PackageBlock as spec
use Rattle.go_scope.proofs.tables.names_of.Given as goal

abbrev pub invariant-loop-region : goal.invariant-loop-region
invariant-loop-region l = l.names.entries ≡ spec.names_of (take l.region-index l.block)
