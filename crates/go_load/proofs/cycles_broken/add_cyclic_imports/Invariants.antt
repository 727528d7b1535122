use Rattle.std.proofs.Common.{◌≡◌, ◌++◌}
use Rattle.std.specs.List.{flat_map, range_with_len}
use Rattle.go_graph.specs.Cycles.{marks_of}
use Rattle.go_load.specs.Packages.CyclicImports.{cyclic_if_reached}
use Rattle.go_load.proofs.cycles_broken.add_cyclic_imports.Given as goal

abbrev pub invariant-loop-k : goal.invariant-loop-k
invariant-loop-k l = l.found.items ≡ l.fn.found.items ++ flat_map (cyclic_if_reached l.heads l.packages (marks_of l.marks)) (range_with_len 0 l.k)
