use Rattle.std.proofs.Common.{◌≡◌, ◌+◌, drop}
use Rattle.go_same.specs.Sets.{unions_size}
use Rattle.go_same.proofs.budget.Budget.spend_unions.Given as goal

-- what the unions before took
abbrev pub invariant-loop-u : goal.invariant-loop-u
invariant-loop-u l = l.self.left + unions_size l.unions ≡ l.initial.self.left + unions_size (drop l.u-index l.unions)
