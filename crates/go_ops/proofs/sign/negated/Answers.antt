use Rattle.std.proofs.Common.{None, sym, subst}
use Rattle.go_num.specs.declared.value.Value.{Value}
use Rattle.go_ops.specs.Limited.{IsGiven}
use Rattle.go_constructs.specs.Operators.Operations.{fit_found}
use Rattle.go_constructs.specs.Operators.Unary.{signed_value}
use Rattle.go_constructs.specs.declared.operator.Sign.TheVariants.{Not}
use Rattle.go_ops.proofs.sign.negated.Goals as goal

pub returns-in-Int : goal.returns-in-Int
returns-in-Int c = subst (λ (w : Value). IsGiven c.no_value_given.result (fit_found (signed_value Not c.args.sort w) c.args.sort) (signed_value Not c.args.sort w)) (sym c.in-Int.is) (c.no_value_given.ensures None)

pub returns-in-Text : goal.returns-in-Text
returns-in-Text c = subst (λ (w : Value). IsGiven c.no_value_given-in-Text.result (fit_found (signed_value Not c.args.sort w) c.args.sort) (signed_value Not c.args.sort w)) (sym c.in-Text.is) (c.no_value_given-in-Text.ensures None)
