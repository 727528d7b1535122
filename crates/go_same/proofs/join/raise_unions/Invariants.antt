use Rattle.std.proofs.Common.{◌≡◌, map}
use Rattle.go_same.specs.Joins.{raised_part}
use Rattle.go_same.proofs.RaiseLemmas.{up_to}
use Rattle.go_same.proofs.join.raise_unions.Given as goal

abbrev pub invariant-loop-u : goal.invariant-loop-u
invariant-loop-u l = map (λ u. u.items) l.unions ≡ up_to (map raised_part) l.u-index (map (λ u. u.items) l.initial.unions)
