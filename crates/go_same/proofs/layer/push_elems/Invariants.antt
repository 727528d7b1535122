use Rattle.std.proofs.Common.{◌≡◌, ◌++◌, drop}
use Rattle.std.specs.List.{flat_map}
use Rattle.go_same.specs.Layers.{lent, types_in_elem}
use Rattle.go_same.proofs.layer.push_elems.Given as goal

-- what is pushed, with the types left, are all types
abbrev pub invariant-loop-e : goal.invariant-loop-e
invariant-loop-e l = lent l.all.items ++ flat_map types_in_elem (drop l.e-index l.elems) ≡ lent l.fn.all.items ++ flat_map types_in_elem l.elems
