use Rattle.std.proofs.Common.{◌≡◌, take}
use Rattle.go_module.specs.Modules.Packages.{imports_of}
use Rattle.go_load.proofs.named.imports_of.Given as goal

abbrev pub invariant-loop-file : goal.invariant-loop-file
invariant-loop-file l = l.list ≡ imports_of l.places l.stubs l.heads l.from_stub (take l.file-index l.files)
