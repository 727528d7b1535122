use Rattle.std.proofs.Common.{take}
use Rattle.go_scope.specs.Held.{ArePlaces}
use Rattle.go_scope.proofs.held.places_of.Given as goal

abbrev pub invariant-loop-i : goal.invariant-loop-i
invariant-loop-i l = ArePlaces (take l.i l.regions) l.places.entries
