use Rattle.std.proofs.Common.{◌≡◌, ◌++◌, take}
use Rattle.std.specs.List.{flat_map}
use Rattle.go_module.specs.Modules.BrokenImports.{broken_imports_at}
use Rattle.go_load.proofs.imports_broken.add_imports.Given as goal

abbrev pub invariant-loop-file : goal.invariant-loop-file
invariant-loop-file l = l.found.items ≡ l.fn.found.items ++ flat_map (broken_imports_at l.places l.stubs l.heads l.from_stub) (take l.file-index l.files)
