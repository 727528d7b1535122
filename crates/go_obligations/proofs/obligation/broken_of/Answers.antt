use Rattle.std.proofs.Common.{◌≡◌, [], inl, drop, ap, arith, subst, sym}
use Rattle.std.proofs.lemmas.List.{drop_all}
use Rattle.go_judge.specs.Headers.{Headers}
use Rattle.go_judge.proofs.OwnLemmas.{keeps_then}
use Rattle.go_obligations.specs.Answers.{AreAnswers}
use Rattle.go_obligations.specs.Owed.{IsTold, owed_view}
use Rattle.go_obligations.proofs.OwedLemmas.{later_own, told_end, told_next}
use Rattle.go_obligations.proofs.obligation.broken_of.Goals as goal

pub loop-obligation-preserved : goal.loop-obligation-preserved
loop-obligation-preserved g c =
    let inv = c.loop-obligation.invariant in
    let owed = c.args.owed.now in
    let headers = g.J.Ask.headers c.args.judge.now in
    let tree = g.J.Ask.tree c.args.judge.now in
    record {
      keeps = keeps_then inv.keeps c.fails_once.ensures.keeps;
      own = later_own inv.keeps.kept owed c.loop-obligation.obligation-index c.obligation-item.result (omega arith) c.obligation-item.is inv.own;
      answers = subst (λ (h : Headers). AreAnswers h c.fails_once.new.answers) inv.keeps.same c.in_ok-fails.ensures.answers;
      told = told_next inv.keeps.kept owed c.loop-obligation.obligation-index c.obligation-item.result (omega arith) c.obligation-item.is inv.own headers (g.J.Ask.headers c.loop-obligation.judge) inv.keeps.same
          c.loop-obligation.found.items c.add_if.new.found.items c.in_ok-fails.fails c.told.result c.in_ok-fails.ensures.fails c.told.ensures c.in_ok-add_if.ensures (IsTold headers (owed_view tree owed)) inv.told;
    }

pub returns-clause-told : goal.returns-clause-told
returns-clause-told g c = λ b.
    let headers = g.J.Ask.headers c.args.judge.now in
    let tree = g.J.Ask.tree c.args.judge.now in
    let left = drop c.loop-obligation.obligation-index c.args.owed.now in
    let none : owed_view tree left ≡ [] = ap (owed_view tree) (drop_all c.loop-obligation.obligation-index c.args.owed.now (omega arith)) in
    let told = c.loop-obligation.invariant.told b in
    (λ h. told.0 (inl h), λ h. told_end headers (owed_view tree left) c.loop-obligation.found.items b none (told.1 h))
