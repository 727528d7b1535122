use Rattle.std.proofs.Common.{◌⊎◌, drop}
use Rattle.std.specs.Prelude.{◌↔◌, Contains}
use Rattle.go_base.specs.declared.rule.Broken.{Broken}
use Rattle.go_judge.specs.Types.Own.{Keeps}
use Rattle.go_obligations.specs.Answers.{AreAnswers}
use Rattle.go_obligations.specs.Owed.{AreOwnObligations, IsTold, owed_view}
use Rattle.go_obligations.proofs.obligation.broken_of.Given as goal

-- what was found so far, with what is told of those left, is what is told of all
abbrev pub invariant-loop-obligation : goal.invariant-loop-obligation
invariant-loop-obligation g l =
    let headers = g.J.Ask.headers l.initial.judge in
    let tree = g.J.Ask.tree l.initial.judge in
    record {
      keeps : Keeps (g.J.Ask.headers l.initial.judge) (g.J.Ask.headers l.judge) (g.J.Ask.names l.initial.judge) (g.J.Ask.names l.judge)
          (g.J.Ask.outcomes l.initial.judge) (g.J.Ask.outcomes l.judge) (g.J.Ask.is_spent l.initial.judge) (g.J.Ask.is_spent l.judge)
          (g.J.Ask.world l.initial.judge) (g.J.Ask.world l.judge) (g.J.Ask.is_type l.initial.judge) (g.J.Ask.is_type l.judge)
          (g.J.Ask.tree l.initial.judge) (g.J.Ask.tree l.judge);
      own : AreOwnObligations (g.J.Ask.is_type l.initial.judge) (drop l.obligation-index l.owed);
      answers : AreAnswers headers l.answers;
      told : (b : Broken) → (Contains l.found.items b ⊎ IsTold headers (owed_view tree (drop l.obligation-index l.owed)) b) ↔ IsTold headers (owed_view tree l.owed) b;
    }
