use Rattle.std.proofs.Common.{Some, sym, ap, ◌∙◌}
use Rattle.std.proofs.lemmas.Result.{IfOk-weaker}
use Rattle.go_judge.specs.Judged.{asked}
use Rattle.go_judge.specs.Records.{rec_as}
use Rattle.go_judge.specs.View.{outcome_as}
use Rattle.go_judge.proofs.OwnDataLemmas.{rec_agrees}
use Rattle.go_ops.specs.Refusals.{refusal_as}
use Rattle.go_ops.specs.Signed.{sign_asks}
use Rattle.go_ops.proofs.OperandLemmas.{one-passes}
use Rattle.go_ops.proofs.sign.sign.Goals as goal

pub returns-in-None-clause-outcome : goal.returns-in-None-clause-outcome
returns-in-None-clause-outcome g c =
    let headers = g.J.Ask.headers c.args.judge.now in
    let tree = g.J.Ask.tree c.args.judge.now in
    let x = rec_as tree c.args.a.now in
    let before = c.in_ok-outcome.ensures in
    let rec = rec_agrees (g.J.Ask.is_type c.args.judge.now) tree (g.J.Ask.tree c.refused_one.new.judge) before.keeps.kept.trees c.args.a.now c.requires.own in
    IfOk-weaker c.sign_of_value.result _ _
    (λ outcome is.
    one-passes headers (sign_asks c.args.op x) (outcome_as (g.J.Ask.tree c.sign_of_value.new.judge) outcome) x (sym (ap (refusal_as (g.J.Ask.tree c.refused_one.new.judge)) c.in-None.is) ∙ before.refused)
    (is ∙ (λ i. asked (before.keeps.same i) (Some (sign_asks c.args.op (rec i))))))
    c.sign_of_value.ensures.outcome
