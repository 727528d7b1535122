use Rattle.std.proofs.Common.{◌≡◌}
use Rattle.go_same.specs.Joins.{raised_part}
use Rattle.go_same.proofs.RaiseLemmas.{up_to}
use Rattle.go_same.proofs.join.raise_parts.Given as goal

abbrev pub invariant-loop-p : goal.invariant-loop-p
invariant-loop-p l = l.parts ≡ up_to raised_part l.p-index l.initial.parts
