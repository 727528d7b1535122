use Rattle.std.proofs.Common.{◌<◌, length, sym, ap, subst, ◌∙◌, arith}
use Rattle.std.specs.List.{AllByRecursion}
use Rattle.std.proofs.lemmas.Result.{IfOk-weaker}
use Rattle.go_same.specs.Layers.{lent}
use Rattle.go_same.proofs.KeptLemmas.{layer_own}
use Rattle.go_same.proofs.OutlineLemmas.{alike_within, alike_other, long_within_alike, shallow, here_own, here_depth}
use Rattle.go_same.proofs.alike.+alike.Goals as goal

pub alike_all-alike-requires : goal.alike_all-alike-requires
alike_all-alike-requires g t c κs lives =
    let inv = c.loop-i.invariant in
    let lt : c.loop-i.i < length c.args.us.now = omega (arith, c.loop-i-test.true, c.requires.long) in
    let near = here_depth inv.keeps.kept c.args.ts.now c.loop-i.i c.index-ts-i.result c.loop-i-test.true c.index-ts-i.is inv.ts_own in (
      omega (arith, near, c.decreases),
      (
        lives,
        (
          here_own inv.keeps.kept c.args.ts.now c.loop-i.i c.index-ts-i.result c.loop-i-test.true c.index-ts-i.is inv.ts_own,
          here_own inv.keeps.kept c.args.us.now c.loop-i.i c.index-us-i.result lt c.index-us-i.is inv.us_own,
        ),
      ),
    )

pub alike_layers-returns-then-not-same_layer-clause-alike : goal.alike_layers-returns-then-not-same_layer-clause-alike
alike_layers-returns-then-not-same_layer-clause-alike g t c =
    alike_other (g.J.Ask.tree c.args.judge.now) c.args.x.now c.args.y.now (sym c.same_layer.ensures ∙ c.if-not-same_layer.true)

pub alike_layers-alike_all-requires : goal.alike_layers-alike_all-requires
alike_layers-alike_all-requires g t c κs lives =
    let first = ap lent c.deref.ensures.value ∙ c.in_ok-ts.ensures in
    let second = ap lent c.deref-2.ensures.value ∙ c.in_ok-us.ensures in
    let same = sym c.same_layer.ensures ∙ c.if-not-same_layer.false in
    let near = shallow (g.J.Ask.tree c.args.judge.now) c.args.x.now c.args.y.now c.deref.result.now c.deref-2.result.now first second in (
      omega (arith, near, c.decreases),
      (
        lives,
        (
          subst (AllByRecursion (g.J.Ask.is_type c.args.judge.now)) (sym first) (layer_own (g.J.Ask.is_type c.args.judge.now) c.args.x.now c.requires.x_own),
          (
            subst (AllByRecursion (g.J.Ask.is_type c.args.judge.now)) (sym second) (layer_own (g.J.Ask.is_type c.args.judge.now) c.args.y.now c.requires.y_own),
            long_within_alike (g.J.Ask.tree c.args.judge.now) c.args.x.now c.args.y.now c.deref.result.now c.deref-2.result.now first second same,
          ),
        ),
      ),
    )

pub alike_layers-returns-clause-alike : goal.alike_layers-returns-clause-alike
alike_layers-returns-clause-alike g t c =
    let first = ap lent c.deref.ensures.value ∙ c.in_ok-ts.ensures in
    let second = ap lent c.deref-2.ensures.value ∙ c.in_ok-us.ensures in
    let same = sym c.same_layer.ensures ∙ c.if-not-same_layer.false in
    IfOk-weaker c.alike_all.result _ _ (λ r h. h ∙ alike_within (g.J.Ask.tree c.args.judge.now) c.args.x.now c.args.y.now c.deref.result.now c.deref-2.result.now first second same) c.alike_all.ensures.alike

pub alike-returns-clause-unspent : goal.alike-returns-clause-unspent
alike-returns-clause-unspent g t c = IfOk-weaker c.alike_layers.result _ _ (λ r h. c.in_ok-x.ensures.unspent) c.alike_layers.ensures.alike
