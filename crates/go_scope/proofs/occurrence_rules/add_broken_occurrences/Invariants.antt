use Rattle.std.proofs.Common.{◌≡◌, ◌++◌, take}
use Rattle.std.specs.List.{flat_map}
use Rattle.go_scope.specs.Known.{known_by}
use Rattle.go_scope.specs.Resolved as spec
use Rattle.go_scope.proofs.occurrence_rules.add_broken_occurrences.Given as goal

abbrev pub invariant-loop-r : goal.invariant-loop-r
invariant-loop-r l = l.found.items ≡ l.fn.found.items ++ flat_map (spec.broken_by (known_by l.before)) (take l.r-index l.resolved)
