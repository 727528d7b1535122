use Rattle.std.proofs.Common.{◌≡◌, ◌++◌}
use Rattle.std.specs.List.{flat_map, range_with_len}
use Rattle.go_module.specs.Modules.BrokenImports.{broken_if_reached}
use Rattle.go_load.proofs.imports_broken.add_broken_imports.Given as goal

abbrev pub invariant-loop-k : goal.invariant-loop-k
invariant-loop-k l = l.found.items ≡ l.fn.found.items ++ flat_map (broken_if_reached l.heads l.packages) (range_with_len 0 l.k)
