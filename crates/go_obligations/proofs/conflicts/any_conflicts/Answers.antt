use Rattle.std.proofs.Common.{true, false, refl, sym, subst, true≢false, arith, below_more}
use Rattle.go_obligations.specs.Conflicts.{ConflictsAt, differ}
use Rattle.go_judge.proofs.OwnLemmas.{keeps_then}
use Rattle.go_obligations.proofs.ConflictLemmas.{at_kept, conflict_found, conflict_none}
use Rattle.go_obligations.proofs.conflicts.any_conflicts.Goals as goal

pub returns-then-branch-clause-conflict : goal.returns-then-branch-clause-conflict
returns-then-branch-clause-conflict g c =
    let judge = c.args.judge.now in
    let inv = c.loop-place.invariant in
    let methods = c.args.methods.now in
    let es = c.args.firsts.now.entries in
    let place = c.loop-place.place in
    let here = subst (ConflictsAt (differ (g.J.Ask.headers c.loop-place.judge) (g.J.Ask.tree c.loop-place.judge)) methods es place) c.if-branch.true c.in_ok-conflicts_at.ensures.conflict in
    let found = conflict_found methods es c.requires.firsts (differ (g.J.Ask.headers judge) (g.J.Ask.tree judge)) place c.loop-place-test.true
    (at_kept inv.keeps.kept (g.J.Ask.headers judge) (g.J.Ask.headers c.loop-place.judge) inv.keeps.same methods inv.own es place true here) in
    (λ e. found, λ conflict. refl)

pub loop-place-preserved : goal.loop-place-preserved
loop-place-preserved g c =
    let judge = c.args.judge.now in
    let inv = c.loop-place.invariant in
    let methods = c.args.methods.now in
    let es = c.args.firsts.now.entries in
    let place = c.loop-place.place in
    let apart = differ (g.J.Ask.headers judge) (g.J.Ask.tree judge) in
    let here = subst (ConflictsAt (differ (g.J.Ask.headers c.loop-place.judge) (g.J.Ask.tree c.loop-place.judge)) methods es place) c.if-branch.false c.in_ok-conflicts_at.ensures.conflict in
    record {
      keeps = keeps_then inv.keeps c.in_ok-conflicts_at.ensures.keeps;
      own = inv.own;
      none = below_more (λ i. ConflictsAt apart methods es i false) place inv.none
          (at_kept inv.keeps.kept (g.J.Ask.headers judge) (g.J.Ask.headers c.loop-place.judge) inv.keeps.same methods inv.own es place false here);
    }

pub returns-clause-conflict : goal.returns-clause-conflict
returns-clause-conflict g c =
    let judge = c.args.judge.now in
    let inv = c.loop-place.invariant in
    let never = conflict_none c.args.methods.now c.args.firsts.now.entries c.requires.firsts (differ (g.J.Ask.headers judge) (g.J.Ask.tree judge)) (λ i lt. inv.none i (omega (arith, lt))) in
    (λ e. absurd (true≢false (sym e)), λ conflict. absurd (never conflict))
