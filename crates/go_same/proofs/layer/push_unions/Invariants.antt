use Rattle.std.proofs.Common.{◌≡◌, ◌++◌, map, drop}
use Rattle.go_same.specs.Layers.{lent}
use Rattle.go_same.proofs.layer.push_unions.Given as goal

-- what is pushed, with the types left, are all types
abbrev pub invariant-loop-u : goal.invariant-loop-u
invariant-loop-u l = lent l.all.items ++ map (λ u. u.ty) (drop l.u-index l.us) ≡ lent l.fn.all.items ++ map (λ u. u.ty) l.us
