use Rattle.std.proofs.Common.{◌≡◌, ℕ, ◌<◌, ◌≤◌, true, slice_index}
use Rattle.go_base.specs.Place.{is_blank}
use Rattle.go_form.proofs.build_constraints.blanks_start.Given as goal

abbrev pub invariant-loop-start : goal.invariant-loop-start
invariant-loop-start l = record {
  behind : l.start ≤ l.at;
  blanks : (k : ℕ) → l.start ≤ k → k < l.at → is_blank (slice_index l.bytes k) ≡ true;
}

abbrev pub decreases-loop-start : goal.decreases-loop-start
decreases-loop-start l = l.start
