use Rattle.std.proofs.Common.{◌≤◌, ◌-◌, length}
use Rattle.go_tree.specs.Lexical.Scan.{Gap}
use Rattle.go_scan.proofs.gap.place.Given as goal

abbrev pub invariant-loop-end : goal.invariant-loop-end
invariant-loop-end l = record {
  from : l.at ≤ l.place;
  within : l.place ≤ length l.bytes;
  gap : Gap l.stops l.bytes l.at l.place;
}

abbrev pub decreases-loop-end : goal.decreases-loop-end
decreases-loop-end l = length l.bytes - l.place
