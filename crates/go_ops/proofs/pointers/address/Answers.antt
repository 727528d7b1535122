use Rattle.std.proofs.Common.{Some, sym, ap, ◌∙◌}
use Rattle.std.proofs.lemmas.Result.{IfOk-weaker}
use Rattle.go_judge.specs.Judged.{asked}
use Rattle.go_judge.specs.Records.{rec_as}
use Rattle.go_judge.specs.View.{outcome_as}
use Rattle.go_judge.proofs.OwnDataLemmas.{rec_agrees}
use Rattle.go_ops.specs.PointerTypes.{address_asks}
use Rattle.go_ops.specs.Refusals.{refusal_as}
use Rattle.go_ops.proofs.OperandLemmas.{one-passes, one-stops}
use Rattle.go_ops.proofs.pointers.address.Goals as goal

pub returns-in-Some-clause-outcome : goal.returns-in-Some-clause-outcome
returns-in-Some-clause-outcome g c =
    let headers = g.J.Ask.headers c.args.judge.now in
    let x = rec_as (g.J.Ask.tree c.args.judge.now) c.args.a.now in
    let refused = ap (refusal_as (g.J.Ask.tree c.refused_one.new.judge)) (sym c.in-Some.is) ∙ c.in_ok-refused.ensures.refused in
    one-stops headers (address_asks c.args.literal x) (outcome_as (g.J.Ask.tree c.refused_one.new.judge) c.in-Some.refused) x refused

pub returns-in-None-clause-outcome : goal.returns-in-None-clause-outcome
returns-in-None-clause-outcome g c =
    let headers = g.J.Ask.headers c.args.judge.now in
    let tree = g.J.Ask.tree c.args.judge.now in
    let x = rec_as tree c.args.a.now in
    let before = c.in_ok-refused.ensures in
    let none = ap (refusal_as (g.J.Ask.tree c.refused_one.new.judge)) (sym c.in-None.is) ∙ before.refused in
    let rec = rec_agrees (g.J.Ask.is_type c.args.judge.now) tree (g.J.Ask.tree c.refused_one.new.judge) before.keeps.kept.trees c.args.a.now c.requires in
    IfOk-weaker c.address_of_value.result _ _
    (λ outcome is. one-passes headers (address_asks c.args.literal x) (outcome_as (g.J.Ask.tree c.address_of_value.new.judge) outcome) x none (is ∙ (λ i. asked (before.keeps.same i) (Some (address_asks c.args.literal (rec i))))))
    c.address_of_value.ensures.outcome
