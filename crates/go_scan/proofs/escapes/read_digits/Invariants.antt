use Rattle.go_scan.proofs.ReadLemmas.{Reads}
use Rattle.go_scan.proofs.escapes.read_digits.Given as goal

abbrev pub invariant-loop-unit : goal.invariant-loop-unit
invariant-loop-unit l = Reads l.kind l.bytes l.from l.at l.unit l.least

abbrev pub decreases-loop-unit : goal.decreases-loop-unit
decreases-loop-unit l = l.unit
