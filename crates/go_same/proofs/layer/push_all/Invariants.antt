use Rattle.std.proofs.Common.{◌≡◌, ◌++◌, drop}
use Rattle.go_same.specs.Layers.{lent}
use Rattle.go_same.proofs.layer.push_all.Given as goal

-- what is pushed, with the types left, are all types
abbrev pub invariant-loop-t : goal.invariant-loop-t
invariant-loop-t l = lent l.all.items ++ (drop l.t-index l.ts) ≡ lent l.fn.all.items ++ l.ts
