use Rattle.std.proofs.Common.{◌≡◌, ◌++◌, ◌≤◌, ◌-◌, drop, length, map}
use Rattle.go_module.specs.Places.{placed_among}
use Rattle.go_load.proofs.places.placed_among.Given as goal

-- those so far and those of what is left are those of all
abbrev pub invariant-loop-start : goal.invariant-loop-start
invariant-loop-start l = record {
  within : l.start ≤ length l.list;
  all : l.placed.items ++ map (placed_among l.texts) (drop l.start l.list) ≡ map (placed_among l.texts) l.list;
}

abbrev pub decreases-loop-start : goal.decreases-loop-start
decreases-loop-start l = length l.list - l.start
