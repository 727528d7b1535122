use Rattle.go_same.proofs.EitherLemmas.{each_left, each_made, each_own}
use Rattle.go_same.proofs.KeepLemmas.{keeps_then}
use Rattle.go_same.proofs.either.with_each.Goals as goal

pub loop-v-preserved : goal.loop-v-preserved
loop-v-preserved g c =
    let inv = c.loop-v.invariant in
    let here = c.in_ok-both.ensures.keeps in
    record {
      keeps = keeps_then inv.keeps here;
      own_left = each_left inv.keeps.kept here.kept c.args.vs.now c.loop-v.v-index c.v-item.result c.loop-v-test.true c.v-item.is inv.own_left c.args.u.now c.requires.own_one c.loop-v.all.items _ c.in_ok-both.both c.in_ok-push.ensures.items inv.own_all;
      own_all = each_own inv.keeps.kept here.kept c.args.vs.now c.loop-v.v-index c.v-item.result c.loop-v-test.true c.v-item.is inv.own_left c.args.u.now c.requires.own_one c.loop-v.all.items _ c.in_ok-both.both c.in_ok-push.ensures.items inv.own_all c.in_ok-both.ensures.own;
      made = each_made inv.keeps.kept here.kept c.args.vs.now c.loop-v.v-index c.v-item.result c.loop-v-test.true c.v-item.is inv.own_left c.args.u.now c.requires.own_one c.loop-v.all.items _ c.in_ok-both.both c.in_ok-push.ensures.items inv.own_all _
          c.deref.result.now c.deref.ensures.value c.in_ok-both.ensures.made inv.made;
    }
