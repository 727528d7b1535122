use Rattle.std.proofs.Common.{◌-◌, ◌<◌, length, arith, sym, ◌∙◌}
use Rattle.go_same.proofs.KeptLemmas.{layer_stays}
use Rattle.go_same.proofs.KeptPairLemmas.{kept_told, layers_moved, pair_kept}
use Rattle.go_same.proofs.kept.is_kept.Goals as goal

pub is_pair-requires-clause-x_own : goal.is_pair-requires-clause-x_own
is_pair-requires-clause-x_own g c = layer_stays c.loop-i.invariant.kept c.args.x.now c.requires.x_own

pub is_pair-requires-clause-y_own : goal.is_pair-requires-clause-y_own
is_pair-requires-clause-y_own g c = layer_stays c.loop-i.invariant.kept c.args.y.now c.requires.y_own

pub returns-then-branch-clause-told : goal.returns-then-branch-clause-told
returns-then-branch-clause-told g c so =
    let inv = c.loop-i.invariant in
    let pair = c.index.result.now in
    let here : c.loop-i.i - 1 < length c.args.kept.now.pairs.items = omega (arith, c.loop-i-test.true, c.loop-i.auto.i, c.len-count.ensures) in
    let kept = pair_kept inv c.args.kept.now.pairs.items (c.loop-i.i - 1) pair here c.index.ensures c.requires.kept in
    sym (layers_moved inv c.args.bounds c.args.x.now c.args.y.now c.requires.x_own c.requires.y_own)
    ∙ kept_told (g.J.Ask.headers c.loop-i.judge) (g.J.Ask.tree c.loop-i.judge) pair c.args.bounds c.args.x.now c.args.y.now kept (c.in_ok-is_pair.ensures.bounds c.if-branch.true) (c.in_ok-is_pair.ensures.layers c.if-branch.true)
