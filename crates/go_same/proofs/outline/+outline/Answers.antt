use Rattle.std.proofs.Common.{◌++◌, ◌<◌, length, map, sym, ap, subst, ◌∙◌, arith}
use Rattle.std.specs.List.{AllByRecursion}
use Rattle.std.proofs.lemmas.Result.{IfOk-weaker}
use Rattle.go_term.specs.Size.{depth}
use Rattle.go_judge.specs.Types.TypeIdentity.{interfaces_in}
use Rattle.go_judge.specs.Types.TypeSets.{plain}
use Rattle.go_same.specs.Layers.{lent, pair_view}
use Rattle.go_same.proofs.KeptLemmas.{layer_own, pairs_kept, pairs_stay}
use Rattle.go_same.proofs.OutlineLemmas.{fit_within, fit_other, pairs_within, long_within, shallow, here_own, here_depth}
use Rattle.go_same.proofs.outline.+outline.Goals as goal

pub outline-returns-in_err-x-clause-pairs_own : goal.outline-returns-in_err-x-clause-pairs_own
outline-returns-in_err-x-clause-pairs_own g t c = pairs_stay c.see_both.ensures.keeps.kept c.args.pairs.now.items c.requires.pairs_own

pub outline-outline_layers-requires : goal.outline-outline_layers-requires
outline-outline_layers-requires g t c κs lives =
    let e = ap depth c.in_ok-x.ensures.a_shape in
    (omega (arith, e, c.decreases), (lives, (c.in_ok-x.ensures.a_parts, (c.in_ok-x.ensures.b_parts, pairs_stay c.see_both.ensures.keeps.kept c.args.pairs.now.items c.requires.pairs_own))))

pub outline-returns-clause-pairs : goal.outline-returns-clause-pairs
outline-returns-clause-pairs g t c =
    let kept = pairs_kept c.see_both.ensures.keeps.kept c.args.pairs.now.items c.requires.pairs_own in
    let a = c.in_ok-x.ensures.a_shape in
    let b = c.in_ok-x.ensures.b_shape in
    IfOk-weaker c.outline_layers.result _ _ (λ r h e. h e ∙ (λ j. kept j ++ interfaces_in (plain (a j)) (plain (b j)))) c.outline_layers.ensures.pairs

pub outline_all-outline-requires : goal.outline_all-outline-requires
outline_all-outline-requires g t c κs lives =
    let inv = c.loop-i.invariant in
    let lt : c.loop-i.i < length c.args.us.now = omega (arith, c.loop-i-test.true, c.requires.long) in
    let near = here_depth inv.keeps.kept c.args.ts.now c.loop-i.i c.index-ts-i.result c.loop-i-test.true c.index-ts-i.is inv.ts_own in (
      omega (arith, near, c.decreases),
      (
        lives,
        (
          here_own inv.keeps.kept c.args.ts.now c.loop-i.i c.index-ts-i.result c.loop-i-test.true c.index-ts-i.is inv.ts_own,
          (
            here_own inv.keeps.kept c.args.us.now c.loop-i.i c.index-us-i.result lt c.index-us-i.is inv.us_own,
            inv.pairs_own,
          ),
        ),
      ),
    )

pub outline_apart-returns-then-not-same_layer-clause-fits : goal.outline_apart-returns-then-not-same_layer-clause-fits
outline_apart-returns-then-not-same_layer-clause-fits g t c =
    fit_other (g.J.Ask.tree c.args.judge.now) c.args.x.now c.args.y.now c.requires.apart (sym c.same_layer.ensures ∙ c.if-not-same_layer.true)

pub outline_apart-outline_all-requires : goal.outline_apart-outline_all-requires
outline_apart-outline_all-requires g t c κs lives =
    let first = ap lent c.deref.ensures.value ∙ c.in_ok-ts.ensures in
    let second = ap lent c.deref-2.ensures.value ∙ c.in_ok-us.ensures in
    let same = sym c.same_layer.ensures ∙ c.if-not-same_layer.false in
    let near = shallow (g.J.Ask.tree c.args.judge.now) c.args.x.now c.args.y.now c.deref.result.now c.deref-2.result.now first second in (
      omega (arith, near, c.decreases),
      (
        lives,
        (
          subst (AllByRecursion (g.J.Ask.is_type c.args.judge.now)) (sym first) (layer_own (g.J.Ask.is_type c.args.judge.now) c.args.x.now c.requires.x_own),
          (
            subst (AllByRecursion (g.J.Ask.is_type c.args.judge.now)) (sym second) (layer_own (g.J.Ask.is_type c.args.judge.now) c.args.y.now c.requires.y_own),
            (
              long_within (g.J.Ask.tree c.args.judge.now) c.args.x.now c.args.y.now c.deref.result.now c.deref-2.result.now first second same,
              c.requires.pairs_own,
            ),
          ),
        ),
      ),
    )

pub outline_apart-returns-clause-fits : goal.outline_apart-returns-clause-fits
outline_apart-returns-clause-fits g t c =
    let first = ap lent c.deref.ensures.value ∙ c.in_ok-ts.ensures in
    let second = ap lent c.deref-2.ensures.value ∙ c.in_ok-us.ensures in
    let same = sym c.same_layer.ensures ∙ c.if-not-same_layer.false in
    IfOk-weaker c.outline_all.result _ _ (λ r h. h ∙ fit_within (g.J.Ask.tree c.args.judge.now) c.args.x.now c.args.y.now c.deref.result.now c.deref-2.result.now first second c.requires.apart same) c.outline_all.ensures.fits

pub outline_apart-returns-clause-pairs : goal.outline_apart-returns-clause-pairs
outline_apart-returns-clause-pairs g t c =
    let first = ap lent c.deref.ensures.value ∙ c.in_ok-ts.ensures in
    let second = ap lent c.deref-2.ensures.value ∙ c.in_ok-us.ensures in
    let same = sym c.same_layer.ensures ∙ c.if-not-same_layer.false in
    let rest = pairs_within (g.J.Ask.tree c.args.judge.now) c.args.x.now c.args.y.now c.deref.result.now c.deref-2.result.now first second c.requires.apart same in
    IfOk-weaker c.outline_all.result _ _ (λ r h e. h e ∙ (λ j. map (pair_view (g.J.Ask.tree c.args.judge.now)) c.args.pairs.now.items ++ rest j)) c.outline_all.ensures.pairs

pub outline-returns-clause-unspent : goal.outline-returns-clause-unspent
outline-returns-clause-unspent g t c = IfOk-weaker c.outline_layers.result _ _ (λ r h. c.in_ok-x.ensures.unspent) c.outline_layers.ensures.fits
