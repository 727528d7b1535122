use Rattle.std.proofs.Common.{◌≡◌, ◌++◌, take}
use Rattle.std.specs.List.{flat_map}
use Rattle.go_load.specs.Packages.CyclicImports.{named_imports_at}
use Rattle.go_load.proofs.cycles_broken.add_imports.Given as goal

abbrev pub invariant-loop-file : goal.invariant-loop-file
invariant-loop-file l = l.list.items ≡ l.fn.list.items ++ flat_map (named_imports_at l.places l.stubs l.heads l.from_stub) (take l.file-index l.files)
