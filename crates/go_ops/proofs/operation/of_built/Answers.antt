use Rattle.std.proofs.Common.{◌≡◌, None, sym, ap, ◌∙◌}
use Rattle.std.proofs.lemmas.Result.{IfOk-weaker}
use Rattle.go_judge.specs.Records.{rec_as}
use Rattle.go_judge.proofs.OwnDataLemmas.{rec_agrees}
use Rattle.go_ops.specs.Refusals.{or_later, refusal_as, two_refused}
use Rattle.go_ops.specs.Stages.{built_outcome, values_outcome}
use Rattle.go_ops.proofs.operation.of_built.Goals as goal

pub returns-in-None-clause-outcome : goal.returns-in-None-clause-outcome
unfolding built_outcome
returns-in-None-clause-outcome g c =
    let old = c.args.judge.now in
    let headers = g.J.Ask.headers old in
    let tree = g.J.Ask.tree old in
    let x = rec_as tree c.args.x.now in
    let y = rec_as tree c.args.y.now in
    let kept = c.in_ok-outcome.ensures.keeps in
    let first = rec_agrees (g.J.Ask.is_type old) tree (g.J.Ask.tree c.refused_two.new.judge) kept.kept.trees c.args.x.now c.requires.first in
    let second = rec_agrees (g.J.Ask.is_type old) tree (g.J.Ask.tree c.refused_two.new.judge) kept.kept.trees c.args.y.now c.requires.second in
    let same : g.J.Ask.headers c.refused_two.new.judge ≡ headers = kept.same in
    let none : None ≡ two_refused x y = sym (ap (refusal_as (g.J.Ask.tree c.refused_two.new.judge)) c.in-None.is) ∙ c.in_ok-outcome.ensures.refused in
    IfOk-weaker c.of_values.result _ _
    (λ outcome is.
    is
    ∙ (λ i. values_outcome (same i) c.args.op (first i) (second i) c.args.s c.args.t)
    ∙ (λ i. or_later (none i) (values_outcome headers c.args.op x y c.args.s c.args.t)))
    c.of_values.ensures.outcome
