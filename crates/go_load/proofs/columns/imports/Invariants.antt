use Rattle.std.proofs.Common.{◌≡◌, ◌++◌, drop}
use Rattle.go_load.specs.Packages.PathSets.{imports_by}
use Rattle.go_load.proofs.columns.imports.Given as goal

abbrev pub invariant-loop-k : goal.invariant-loop-k
invariant-loop-k l = l.imports.items ++ imports_by l.places l.stubs l.heads (drop l.k l.stubs) (drop l.k l.files) ≡ imports_by l.places l.stubs l.heads l.stubs l.files
