use Rattle.std.proofs.Common.{◌≡◌, ◌≤◌, ◌-◌, length, slice_range}
use Rattle.go_scan.specs.StringTexts.{are_escapes}
use Rattle.go_scan.proofs.string_texts.are_escapes.Given as goal

abbrev pub invariant-loop-at : goal.invariant-loop-at
invariant-loop-at l = record {
  within : l.at ≤ length l.inside;
  so_far : are_escapes 0 (slice_range l.inside l.at (length l.inside)) ≡ are_escapes 0 l.inside;
}

abbrev pub decreases-loop-at : goal.decreases-loop-at
decreases-loop-at l = length l.inside - l.at
