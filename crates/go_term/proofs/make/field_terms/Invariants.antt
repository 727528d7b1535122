use Rattle.std.proofs.Common.{◌≡◌, map}
use Rattle.go_term.specs.Shapes.{field_tree}
use Rattle.go_term.specs.View.{type_of, field_of}
use Rattle.go_term.proofs.make.field_terms.Given as goal

abbrev pub invariant-loop-f : goal.invariant-loop-f
invariant-loop-f l = map field_of l.all.items ≡ map (field_tree type_of) l.yielded
