use Rattle.go_constructs.specs.Operators.Operations.{of_values}
use Rattle.go_constructs.specs.declared.operator.Operation.TheVariants.{And}
use Rattle.go_ops.proofs.CalculationLemmas.{nothing-given}
use Rattle.go_ops.proofs.calculation.conjunction.Goals as goal

pub returns-in-Bool-Int : goal.returns-in-Bool-Int
returns-in-Bool-Int c = nothing-given c.no_value_given.result And c.args.sort c.args.a.now c.args.b.now c.no_value_given.ensures (λ i. of_values And c.args.sort (c.in-Bool-Int.is-0 i) (c.in-Bool-Int.is-1 i))

pub returns-in-Bool-Text : goal.returns-in-Bool-Text
returns-in-Bool-Text c = nothing-given c.no_value_given-in-Bool-Text.result And c.args.sort c.args.a.now c.args.b.now c.no_value_given-in-Bool-Text.ensures (λ i. of_values And c.args.sort (c.in-Bool-Text.is-0 i) (c.in-Bool-Text.is-1 i))

pub returns-in-Int-default : goal.returns-in-Int-default
returns-in-Int-default c = nothing-given c.no_value_given-in-Int-default.result And c.args.sort c.args.a.now c.args.b.now c.no_value_given-in-Int-default.ensures (λ i. of_values And c.args.sort (c.in-Int-default.is-0 i) c.args.b.now)

pub returns-in-Text-default : goal.returns-in-Text-default
returns-in-Text-default c = nothing-given c.no_value_given-in-Text-default.result And c.args.sort c.args.a.now c.args.b.now c.no_value_given-in-Text-default.ensures (λ i. of_values And c.args.sort (c.in-Text-default.is-0 i) c.args.b.now)
