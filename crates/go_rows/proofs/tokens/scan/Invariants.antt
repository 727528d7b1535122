use Rattle.std.proofs.Common.{◌≤◌, length}
use Rattle.go_scan.specs.Weight.{scan_weight}
use Rattle.go_rows.proofs.tokens.scan.Given as goal

abbrev pub invariant-loop-fault : goal.invariant-loop-fault
invariant-loop-fault l = l.at ≤ length l.text

abbrev pub decreases-loop-fault : goal.decreases-loop-fault
decreases-loop-fault l = scan_weight (length l.text) l.at l.last
