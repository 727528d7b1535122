use Rattle.go_same.proofs.EitherLemmas.{left_parts, products_made}
use Rattle.go_same.proofs.KeepLemmas.{keeps_then}
use Rattle.std.specs.List.{AllByRecursion}
use Rattle.go_same.proofs.either.products.Goals as goal

pub loop-u-preserved : goal.loop-u-preserved
loop-u-preserved g c =
    let inv = c.loop-u.invariant in
    let here = c.in_ok-all.ensures.keeps in
    record {
      keeps = keeps_then inv.keeps here;
      own_left = (left_parts c.args.us.now c.loop-u.u-index c.u-item.result c.loop-u-test.true c.u-item.is (λ u. AllByRecursion (λ p. g.J.Ask.is_type c.args.judge.now p.ty) u.items) inv.own_left).1;
      own_all = c.in_ok-all.ensures.own;
      made = products_made _ inv.keeps.kept c.args.us.now c.loop-u.u-index c.u-item.result c.loop-u-test.true c.u-item.is inv.own_left c.args.vs.now c.requires.own_second c.loop-u.all.items _ c.deref.result.now c.deref.ensures.value c.in_ok-all.ensures.made _ inv.made;
    }
