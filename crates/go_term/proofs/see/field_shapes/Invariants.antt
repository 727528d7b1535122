use Rattle.std.proofs.Common.{◌≡◌, ◌++◌, map, drop}
use Rattle.go_term.specs.Shapes.{field_tree}
use Rattle.go_term.specs.View.{type_of, field_of}
use Rattle.go_term.proofs.see.field_shapes.Given as goal

abbrev pub invariant-loop-f : goal.invariant-loop-f
invariant-loop-f l = map (field_tree type_of) l.all.items ++ map field_of (drop l.f-index l.fields) ≡ map field_of l.fields
