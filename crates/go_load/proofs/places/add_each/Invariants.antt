use Rattle.std.proofs.Common.{◌≡◌, ◌++◌, map, take}
use Rattle.go_module.specs.Places.{placed_in}
use Rattle.go_load.proofs.places.add_each.Given as goal

abbrev pub invariant-loop-broken : goal.invariant-loop-broken
invariant-loop-broken l = l.placed.items ≡ l.initial.placed.items ++ map (placed_in l.text) (take l.broken-index l.list)
