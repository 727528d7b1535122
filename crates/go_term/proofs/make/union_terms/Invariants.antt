use Rattle.std.proofs.Common.{◌≡◌, map}
use Rattle.go_term.specs.Shapes.{union_tree}
use Rattle.go_term.specs.View.{type_of, union_term_of}
use Rattle.go_term.proofs.make.union_terms.Given as goal

abbrev pub invariant-loop-u : goal.invariant-loop-u
invariant-loop-u l = map union_term_of l.all.items ≡ map (union_tree type_of) l.yielded
