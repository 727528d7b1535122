use Rattle.go_check.specs.Packages.State.{IsState}
use Rattle.go_check.proofs.module.check_packages.Given as goal

-- the packages before are checked
abbrev pub invariant-loop-place : goal.invariant-loop-place
invariant-loop-place g l = IsState l.module l.names l.place l.state
