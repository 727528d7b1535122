use Rattle.std.proofs.Common.{ap}
use Rattle.go_judge.specs.Types.TypeSets.{plain}
use Rattle.go_same.proofs.EitherLemmas.{copy_left, copy_made, copy_own}
use Rattle.go_same.proofs.KeepLemmas.{keeps_then}
use Rattle.go_same.proofs.either.with_copies.Goals as goal

pub loop-p-preserved : goal.loop-p-preserved
loop-p-preserved g c =
    let inv = c.loop-p.invariant in
    let here = c.in_ok-ty.ensures.keeps in
    record {
      keeps = keeps_then inv.keeps here;
      own_left = copy_left inv.keeps.kept here.kept c.args.parts.now c.loop-p.p-index c.p-item.result c.loop-p-test.true c.p-item.is inv.own_left c.loop-p.all.items _ _ c.in_ok-push.ensures.items inv.own_all;
      own_all = copy_own inv.keeps.kept here.kept c.args.parts.now c.loop-p.p-index c.p-item.result c.loop-p-test.true c.p-item.is inv.own_left c.loop-p.all.items _ _ c.in_ok-push.ensures.items inv.own_all c.in_ok-ty.ensures.own;
      made = copy_made inv.keeps.kept here.kept c.args.parts.now c.loop-p.p-index c.p-item.result c.loop-p-test.true c.p-item.is inv.own_left c.loop-p.all.items _ _ c.in_ok-push.ensures.items inv.own_all _
          (ap (λ t. record { tilde = c.p-item.result.tilde; type = plain t; opened = c.p-item.result.opened }) c.in_ok-ty.ensures.same) inv.made;
    }
