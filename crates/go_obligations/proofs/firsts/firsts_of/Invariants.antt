use Rattle.go_obligations.specs.Firsts.{AreFirsts}
use Rattle.go_obligations.proofs.firsts.firsts_of.Given as goal

-- the firsts among the methods before the place
abbrev pub invariant-loop-place : goal.invariant-loop-place
invariant-loop-place l = AreFirsts l.methods l.place l.firsts.entries
