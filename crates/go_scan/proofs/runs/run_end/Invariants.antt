use Rattle.std.proofs.Common.{◌≤◌, ◌-◌, length}
use Rattle.go_tree.specs.Lexical.Characters.{Run}
use Rattle.go_scan.specs.Runs.{passes_of}
use Rattle.go_scan.proofs.runs.run_end.Given as goal

abbrev pub invariant-loop-c : goal.invariant-loop-c
invariant-loop-c l = record {
  from : l.from ≤ l.at;
  within : l.at ≤ length l.bytes;
  run : Run (passes_of l.test) l.bytes l.from l.at;
}

abbrev pub decreases-loop-c : goal.decreases-loop-c
decreases-loop-c l = length l.bytes - l.at
