use Rattle.std.proofs.Common.{◌≡◌}
use Rattle.go_same.specs.Joins.{raised_method}
use Rattle.go_same.proofs.RaiseLemmas.{up_to}
use Rattle.go_same.proofs.join.raise_methods.Given as goal

abbrev pub invariant-loop-m : goal.invariant-loop-m
invariant-loop-m l = l.methods ≡ up_to raised_method l.m-index l.initial.methods
