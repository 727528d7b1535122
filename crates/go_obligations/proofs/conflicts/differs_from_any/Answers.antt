use Rattle.std.proofs.Common.{false, sym, ◌∙◌}
use Rattle.go_judge.proofs.OwnLemmas.{keeps_then}
use Rattle.go_obligations.proofs.ConflictLemmas.{others_left, others_step}
use Rattle.go_obligations.proofs.conflicts.differs_from_any.Goals as goal

pub loop-other-preserved : goal.loop-other-preserved
loop-other-preserved g c =
    let judge = c.args.judge.now in
    let inv = c.loop-other.invariant in
    let headers = g.J.Ask.headers judge in
    let headers' = g.J.Ask.headers c.loop-other.judge in
    let here = c.in_ok-named_alike_differ.ensures in
    record {
      keeps = keeps_then inv.keeps here.keeps;
      own = others_left inv.keeps.kept headers headers' inv.keeps.same c.args.methods.now c.loop-other.other-index c.other-item.result c.loop-other-test.true c.other-item.is c.args.method.now c.requires.own_method.0 inv.own;
      left = others_step inv.keeps.kept headers headers' inv.keeps.same c.args.methods.now c.loop-other.other-index c.other-item.result c.loop-other-test.true c.other-item.is c.args.method.now c.requires.own_method.0 inv.own
          false (sym c.if-branch.false ∙ here.differ) _ inv.left;
    }
