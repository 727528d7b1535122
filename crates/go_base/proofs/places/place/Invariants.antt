use Rattle.std.proofs.Common.{◌≡◌, ◌≤◌, ◌<◌, ◌-◌, ℕ, true, false, count_by, take, get_or}
use Rattle.go_base.specs.Place.{is_newline}
use Rattle.go_base.proofs.places.place.Given as goal

abbrev pub invariant-loop-i : goal.invariant-loop-i
invariant-loop-i l = record {
  counted : l.newlines ≡ count_by is_newline (take l.i l.before);
  few : l.newlines ≤ l.i;
  within : l.start ≤ l.i;
  begins : 0 < l.start → is_newline (get_or l.before (l.start - 1) 0) ≡ true;
  runs : (k : ℕ) → l.start ≤ k → k < l.i → is_newline (get_or l.before k 0) ≡ false;
}
