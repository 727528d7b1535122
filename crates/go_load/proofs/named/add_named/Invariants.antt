use Rattle.std.proofs.Common.{◌≡◌, ◌++◌, take}
use Rattle.go_module.specs.Modules.Packages.{all_named}
use Rattle.go_load.proofs.named.add_named.Given as goal

abbrev pub invariant-loop-import : goal.invariant-loop-import
invariant-loop-import l = l.list ≡ l.fn.list ++ all_named l.places l.stubs l.from_stub (take l.import-index l.imports)
