use Rattle.std.proofs.Common.{◌≡◌, ◌≤◌, ◌<◌, ℕ, false, length, get_or}
use Rattle.go_module.specs.Modules.PathParts.{is_slash}
use Rattle.go_mod.proofs.path_parts.last_start.Given as goal

abbrev pub invariant-loop-start : goal.invariant-loop-start
invariant-loop-start l = record {
  within : l.start ≤ length l.path;
  none : (k : ℕ) → l.start ≤ k → k < length l.path → is_slash (get_or l.path k 0) ≡ false;
}

abbrev pub decreases-loop-start : goal.decreases-loop-start
decreases-loop-start l = l.start
