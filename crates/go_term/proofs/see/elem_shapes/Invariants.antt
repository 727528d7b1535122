use Rattle.std.proofs.Common.{◌≡◌, ◌++◌, map, drop}
use Rattle.go_term.specs.Shapes.{elem_tree}
use Rattle.go_term.specs.View.{type_of, elem_of}
use Rattle.go_term.proofs.see.elem_shapes.Given as goal

abbrev pub invariant-loop-e : goal.invariant-loop-e
invariant-loop-e l = map (elem_tree type_of) l.all.items ++ map elem_of (drop l.e-index l.elems) ≡ map elem_of l.elems
