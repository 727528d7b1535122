use Rattle.go_constructs.specs.Operators.Operations.{of_values}
use Rattle.go_constructs.specs.declared.operator.Operation.TheVariants.{Arithmetic}
use Rattle.go_ops.proofs.CalculationLemmas.{nothing-given}
use Rattle.go_num.specs.declared.value.Value.TheVariants.{Text}
use Rattle.go_ops.proofs.calculation.of_texts.Goals as goal

pub returns-in-Sub : goal.returns-in-Sub
returns-in-Sub c = nothing-given c.no_value_given.result (Arithmetic c.args.op) c.args.sort (Text c.args.a.now) (Text c.args.b.now) c.no_value_given.ensures (λ i. of_values (Arithmetic (c.in-Sub.is i)) c.args.sort (Text c.args.a.now) (Text c.args.b.now))

pub returns-in-Mul : goal.returns-in-Mul
returns-in-Mul c = nothing-given c.no_value_given-in-Mul.result (Arithmetic c.args.op) c.args.sort (Text c.args.a.now) (Text c.args.b.now) c.no_value_given-in-Mul.ensures (λ i. of_values (Arithmetic (c.in-Mul.is i)) c.args.sort (Text c.args.a.now) (Text c.args.b.now))

pub returns-in-Quo : goal.returns-in-Quo
returns-in-Quo c = nothing-given c.no_value_given-in-Quo.result (Arithmetic c.args.op) c.args.sort (Text c.args.a.now) (Text c.args.b.now) c.no_value_given-in-Quo.ensures (λ i. of_values (Arithmetic (c.in-Quo.is i)) c.args.sort (Text c.args.a.now) (Text c.args.b.now))

pub returns-in-Rem : goal.returns-in-Rem
returns-in-Rem c = nothing-given c.no_value_given-in-Rem.result (Arithmetic c.args.op) c.args.sort (Text c.args.a.now) (Text c.args.b.now) c.no_value_given-in-Rem.ensures (λ i. of_values (Arithmetic (c.in-Rem.is i)) c.args.sort (Text c.args.a.now) (Text c.args.b.now))

pub returns-in-And : goal.returns-in-And
returns-in-And c = nothing-given c.no_value_given-in-And.result (Arithmetic c.args.op) c.args.sort (Text c.args.a.now) (Text c.args.b.now) c.no_value_given-in-And.ensures (λ i. of_values (Arithmetic (c.in-And.is i)) c.args.sort (Text c.args.a.now) (Text c.args.b.now))

pub returns-in-Or : goal.returns-in-Or
returns-in-Or c = nothing-given c.no_value_given-in-Or.result (Arithmetic c.args.op) c.args.sort (Text c.args.a.now) (Text c.args.b.now) c.no_value_given-in-Or.ensures (λ i. of_values (Arithmetic (c.in-Or.is i)) c.args.sort (Text c.args.a.now) (Text c.args.b.now))

pub returns-in-Xor : goal.returns-in-Xor
returns-in-Xor c = nothing-given c.no_value_given-in-Xor.result (Arithmetic c.args.op) c.args.sort (Text c.args.a.now) (Text c.args.b.now) c.no_value_given-in-Xor.ensures (λ i. of_values (Arithmetic (c.in-Xor.is i)) c.args.sort (Text c.args.a.now) (Text c.args.b.now))

pub returns-in-AndNot : goal.returns-in-AndNot
returns-in-AndNot c = nothing-given c.no_value_given-in-AndNot.result (Arithmetic c.args.op) c.args.sort (Text c.args.a.now) (Text c.args.b.now) c.no_value_given-in-AndNot.ensures (λ i. of_values (Arithmetic (c.in-AndNot.is i)) c.args.sort (Text c.args.a.now) (Text c.args.b.now))
