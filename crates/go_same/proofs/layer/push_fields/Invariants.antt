use Rattle.std.proofs.Common.{◌≡◌, ◌++◌, map, drop}
use Rattle.go_same.specs.Layers.{lent}
use Rattle.go_same.proofs.layer.push_fields.Given as goal

-- what is pushed, with the types left, are all types
abbrev pub invariant-loop-f : goal.invariant-loop-f
invariant-loop-f l = lent l.all.items ++ map (λ f. f.ty) (drop l.f-index l.fields) ≡ lent l.fn.all.items ++ map (λ f. f.ty) l.fields
