use Rattle.std.proofs.Common.{◌≡◌, ◌+◌, ◌-◌, ◌^◌, min}
use Rattle.go_rows.proofs.run.run_rows.Given as goal

abbrev pub invariant-loop-row : goal.invariant-loop-row
invariant-loop-row g l = l.tally.rows ≡ min (l.initial.tally.rows + l.row-index) (2 ^ 64 - 1)
