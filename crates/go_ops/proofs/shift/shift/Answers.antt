use Rattle.std.proofs.Common.{Some, sym, ap, ◌∙◌}
use Rattle.std.proofs.lemmas.Result.{IfOk-weaker}
use Rattle.go_judge.specs.Judged.{asked}
use Rattle.go_judge.specs.Records.{rec_as}
use Rattle.go_judge.specs.View.{outcome_as}
use Rattle.go_judge.proofs.OwnDataLemmas.{rec_agrees}
use Rattle.go_ops.specs.Refusals.{refusal_as}
use Rattle.go_ops.specs.Shifted.{shift_asks}
use Rattle.go_ops.proofs.OperandLemmas.{two-pass, two-stop}
use Rattle.go_ops.proofs.shift.shift.Goals as goal

pub returns-in-Some-clause-outcome : goal.returns-in-Some-clause-outcome
returns-in-Some-clause-outcome g c =
    let tree = g.J.Ask.tree c.args.judge.now in
    let x = rec_as tree c.args.a.now in
    let y = rec_as tree c.args.b.now in
    two-stop (g.J.Ask.headers c.args.judge.now) (shift_asks c.args.left x y) (outcome_as (g.J.Ask.tree c.refused_two.new.judge) c.in-Some.outcome) x y (sym (ap (refusal_as (g.J.Ask.tree c.refused_two.new.judge)) c.in-Some.is) ∙ c.in_ok-outcome.ensures.refused)

pub returns-in-None-clause-outcome : goal.returns-in-None-clause-outcome
returns-in-None-clause-outcome g c =
    let headers = g.J.Ask.headers c.args.judge.now in
    let tree = g.J.Ask.tree c.args.judge.now in
    let before = c.in_ok-outcome.ensures in
    let agrees = rec_agrees (g.J.Ask.is_type c.args.judge.now) tree (g.J.Ask.tree c.refused_two.new.judge) before.keeps.kept.trees in
    let x = agrees c.args.a.now c.requires.first in
    let y = agrees c.args.b.now c.requires.second in
    let left = rec_as tree c.args.a.now in
    let right = rec_as tree c.args.b.now in
    IfOk-weaker c.shift_of_values.result _ _
    (λ outcome is.
    two-pass headers (shift_asks c.args.left left right) (outcome_as (g.J.Ask.tree c.shift_of_values.new.judge) outcome) left right (sym (ap (refusal_as (g.J.Ask.tree c.refused_two.new.judge)) c.in-None.is) ∙ before.refused)
    (is ∙ (λ i. asked (before.keeps.same i) (Some (shift_asks c.args.left (x i) (y i))))))
    c.shift_of_values.ensures.outcome
