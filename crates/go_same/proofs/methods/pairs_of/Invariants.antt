use Rattle.std.proofs.Common.{◌≡◌, ◌≤◌, length, map, take}
use Rattle.go_same.specs.declared.set.Method.{Method}
use Rattle.go_same.specs.MethodOrder as spec
use Rattle.go_same.proofs.methods.pairs_of.Given as goal

abbrev pub invariant-loop-i : goal.invariant-loop-i
invariant-loop-i l = record {
  inside : l.from ≤ length l.ns;
  passed : spec.AreBefore l.ns l.from l.ms l.i;
  in_range : spec.AreInRange l.ms l.ns l.pairs.items;
  so_far : (other : Method) → map (spec.both_at l.ms l.ns other) l.pairs.items ≡ spec.pairs_in (take l.i l.ms) l.ns;
}
