use Rattle.std.proofs.Common.{◌≡◌, ◌++◌}
use Rattle.std.specs.Vec.Iter.{into_iter_items}
use Rattle.go_obligations.specs.EmbeddedShapes.{types_embedded}
use Rattle.go_obligations.proofs.elements.types_embedded.Given as goal

-- the types so far, with those of the elements left, are those of all
abbrev pub invariant-loop-elem : goal.invariant-loop-elem
invariant-loop-elem l = l.types.items ++ types_embedded (into_iter_items l.elem-iterator) ≡ types_embedded l.fn.elems.items
