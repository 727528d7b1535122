use Rattle.go_judge.proofs.OwnLemmas.{keeps_then}
use Rattle.go_obligations.proofs.MethodLemmas.{elems_left, elems_step}
use Rattle.go_obligations.proofs.methods.push_each.Goals as goal

pub loop-elem-preserved : goal.loop-elem-preserved
loop-elem-preserved g c =
    let inv = c.loop-elem.invariant in
    let here = c.in_ok-push_elem.ensures in
    record {
      keeps = keeps_then inv.keeps here.keeps;
      own = elems_left inv.keeps.kept _ _ c.in-Some.elem c.in-Some.ensures.steps.0 inv.own;
      own_methods = here.own;
      left = elems_step inv.keeps.kept _ _ c.in-Some.elem c.in-Some.ensures.steps.0 inv.own _ _ _ here.methods inv.left;
    }
