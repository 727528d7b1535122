use Rattle.std.proofs.Common.{◌≡◌, ◌≤◌, true, length, take}
use Rattle.go_same.specs.MethodOrder as spec
use Rattle.go_same.proofs.methods.have_names_of.Given as goal

abbrev pub invariant-loop-n : goal.invariant-loop-n
invariant-loop-n l = record {
  inside : l.from ≤ length l.ms;
  passed : spec.AreBefore l.ms l.from l.ns l.n-index;
  found : spec.have_names_of l.ms (take l.n-index l.ns) ≡ true;
}
