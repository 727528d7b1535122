use Rattle.std.proofs.Common.{Option, ◌∙◌, subst}
use Rattle.std.proofs.lemmas.Result.{IfOk-weaker}
use Rattle.go_num.specs.declared.value.Value.{Value}
use Rattle.go_term.specs.View.{type_of}
use Rattle.go_judge.specs.Records.{rec_view}
use Rattle.go_ops.specs.Limited.{IsGiven}
use Rattle.go_ops.specs.Stages.{both_divide, both_of, fit_of_values, value_of_values}
use Rattle.go_ops.proofs.CalculationLemmas.{quotient-there}
use Rattle.go_ops.proofs.calculation.calculated.Goals as goal

pub of_constants-requires-clause-kind : goal.of_constants-requires-clause-kind
of_constants-requires-clause-kind c =
    let first = c.constant_in-first.ensures type_of in
    let second = c.constant_in-second.ensures type_of in
    (λ i. both_of (first i) (second i) c.args.sort) ∙ c.requires.kind

pub of_constants-requires-clause-divisor : goal.of_constants-requires-clause-divisor
of_constants-requires-clause-divisor c =
    let first = c.constant_in-first.ensures type_of in
    let second = c.constant_in-second.ensures type_of in
    (λ i. both_divide c.args.op (first i) (second i)) ∙ quotient-there c.args.op (rec_view c.args.x.now) (rec_view c.args.y.now) c.args.sort c.requires.divisor

pub returns : goal.returns
returns c =
    let first = c.constant_in-first.ensures type_of in
    let second = c.constant_in-second.ensures type_of in
    IfOk-weaker c.of_constants.result _ _
    (λ given. subst (λ (pair : Option Value × Option Value).
    IsGiven given (fit_of_values c.args.op c.args.sort pair.0 pair.1) (value_of_values c.args.op c.args.sort pair.0 pair.1))
    (λ i. (first i, second i)))
    c.of_constants.ensures
