use Rattle.std.proofs.Common.{◌∙◌}
use Rattle.go_constructs.specs.Operators.Operations.{of_values}
use Rattle.go_constructs.specs.declared.operator.Operation.TheVariants.{Arithmetic}
use Rattle.go_ops.proofs.CalculationLemmas.{nothing-given, text-integer, text-truth}
use Rattle.go_ops.proofs.calculation.arithmetic.Goals as goal

pub returns-in-Int-Text : goal.returns-in-Int-Text
returns-in-Int-Text c = nothing-given c.no_value_given.result (Arithmetic c.args.op) c.args.sort c.args.a.now c.args.b.now c.no_value_given.ensures (λ i. of_values (Arithmetic c.args.op) c.args.sort (c.in-Int-Text.is-0 i) (c.in-Int-Text.is-1 i))

pub returns-in-Int-Bool : goal.returns-in-Int-Bool
returns-in-Int-Bool c = nothing-given c.no_value_given-in-Int-Bool.result (Arithmetic c.args.op) c.args.sort c.args.a.now c.args.b.now c.no_value_given-in-Int-Bool.ensures (λ i. of_values (Arithmetic c.args.op) c.args.sort (c.in-Int-Bool.is-0 i) (c.in-Int-Bool.is-1 i))

pub returns-in-Text-Int : goal.returns-in-Text-Int
returns-in-Text-Int c = nothing-given c.no_value_given-in-Text-Int.result (Arithmetic c.args.op) c.args.sort c.args.a.now c.args.b.now c.no_value_given-in-Text-Int.ensures ((λ i. of_values (Arithmetic c.args.op) c.args.sort (c.in-Text-Int.is-0 i) (c.in-Text-Int.is-1 i)) ∙ text-integer c.args.op c.args.sort c.in-Text-Int.field-0-0 c.in-Text-Int.field-0-1)

pub returns-in-Text-Bool : goal.returns-in-Text-Bool
returns-in-Text-Bool c = nothing-given c.no_value_given-in-Text-Bool.result (Arithmetic c.args.op) c.args.sort c.args.a.now c.args.b.now c.no_value_given-in-Text-Bool.ensures ((λ i. of_values (Arithmetic c.args.op) c.args.sort (c.in-Text-Bool.is-0 i) (c.in-Text-Bool.is-1 i)) ∙ text-truth c.args.op c.args.sort c.in-Text-Bool.field-0-0 c.in-Text-Bool.field-0-1)

pub returns-in-Bool-default : goal.returns-in-Bool-default
returns-in-Bool-default c = nothing-given c.no_value_given-in-Bool-default.result (Arithmetic c.args.op) c.args.sort c.args.a.now c.args.b.now c.no_value_given-in-Bool-default.ensures (λ i. of_values (Arithmetic c.args.op) c.args.sort (c.in-Bool-default.is-0 i) c.args.b.now)
