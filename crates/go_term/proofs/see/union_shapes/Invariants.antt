use Rattle.std.proofs.Common.{◌≡◌, ◌++◌, map, drop}
use Rattle.go_term.specs.Shapes.{union_tree}
use Rattle.go_term.specs.View.{type_of, union_term_of}
use Rattle.go_term.proofs.see.union_shapes.Given as goal

abbrev pub invariant-loop-u : goal.invariant-loop-u
invariant-loop-u l = map (union_tree type_of) l.all.items ++ map union_term_of (drop l.u-index l.terms) ≡ map union_term_of l.terms
