use Rattle.std.proofs.Common.{◌≡◌, ◌++◌, drop}
use Rattle.go_load.specs.Packages.CyclicImports.{with_marks}
use Rattle.go_load.proofs.cycles_broken.add_marked.Given as goal

abbrev pub invariant-loop-k : goal.invariant-loop-k
invariant-loop-k l = l.found.items ++ with_marks (drop l.k l.list) (drop l.k l.marks) ≡ l.fn.found.items ++ with_marks l.list l.marks
