use Rattle.std.proofs.Common.{◌≡◌, ◌++◌, take}
use Rattle.std.specs.List.{flat_map}
use Rattle.go_module.specs.Modules.BrokenImports.{broken_import}
use Rattle.go_load.proofs.imports_broken.add_each_import.Given as goal

abbrev pub invariant-loop-import : goal.invariant-loop-import
invariant-loop-import l = l.found.items ≡ l.fn.found.items ++ flat_map (broken_import l.places l.stubs l.from_stub l.file) (take l.import-index l.imports)
