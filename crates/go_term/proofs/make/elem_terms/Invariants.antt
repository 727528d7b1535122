use Rattle.std.proofs.Common.{◌≡◌, map}
use Rattle.go_term.specs.Shapes.{elem_tree}
use Rattle.go_term.specs.View.{type_of, elem_of}
use Rattle.go_term.proofs.make.elem_terms.Given as goal

abbrev pub invariant-loop-e : goal.invariant-loop-e
invariant-loop-e l = map elem_of l.all.items ≡ map (elem_tree type_of) l.yielded
