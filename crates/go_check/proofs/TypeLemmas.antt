-- Where any type is a judge's own, so are the parts of a layer that it sees.
use Rattle.std.specs.Prelude.{Result, Ok, Err, IfOk}
use Rattle.go_term.specs.declared.shape.Shape.{Shape}
use Rattle.go_judge.specs.Types.Own.{AreOwn}
use Rattle.go_judge.proofs.OwnLemmas.{Any, shape_any}

pub seen_any : {E : Type 0} (r : Result Shape E) → IfOk r (AreOwn Any)
seen_any (Ok shape) = shape_any shape
seen_any (Err e) = tt
