use Rattle.std.proofs.Common.{None, sym, subst}
use Rattle.go_num.specs.declared.value.Value.{Value}
use Rattle.go_ops.specs.Limited.{IsGiven}
use Rattle.go_constructs.specs.Operators.Operations.{fit_found}
use Rattle.go_constructs.specs.Operators.Shifts.{shifted_value}
use Rattle.go_ops.proofs.shift.value_shifted_by.Goals as goal

pub returns-in-Bool : goal.returns-in-Bool
returns-in-Bool c = subst (λ (w : Value). IsGiven c.no_value_given.result (fit_found (shifted_value c.args.left w c.args.b.now) c.args.sort) (shifted_value c.args.left w c.args.b.now)) (sym c.in-Bool.is) (c.no_value_given.ensures None)

pub returns-in-Text : goal.returns-in-Text
returns-in-Text c = subst (λ (w : Value). IsGiven c.no_value_given-in-Text.result (fit_found (shifted_value c.args.left w c.args.b.now) c.args.sort) (shifted_value c.args.left w c.args.b.now)) (sym c.in-Text.is) (c.no_value_given-in-Text.ensures None)
