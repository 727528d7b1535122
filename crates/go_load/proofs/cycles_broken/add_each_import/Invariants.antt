use Rattle.std.proofs.Common.{◌≡◌, ◌++◌, take}
use Rattle.std.specs.List.{flat_map}
use Rattle.go_load.specs.Packages.CyclicImports.{named_import}
use Rattle.go_load.proofs.cycles_broken.add_each_import.Given as goal

abbrev pub invariant-loop-import : goal.invariant-loop-import
invariant-loop-import l = l.list.items ≡ l.fn.list.items ++ flat_map (named_import l.places l.stubs l.from_stub l.file) (take l.import-index l.imports)
