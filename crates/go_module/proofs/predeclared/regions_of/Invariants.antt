use Rattle.std.proofs.Common.{◌≡◌, map, take}
use Rattle.go_module.specs.Names.Universe as spec
use Rattle.go_module.proofs.predeclared.regions_of.Given as goal

abbrev pub invariant-loop-i : goal.invariant-loop-i
invariant-loop-i l = l.regions.items ≡ spec.universe_from 0 (map (λ row. (row.0.now, row.1)) (take l.i l.rows))
