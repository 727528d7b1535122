use Rattle.std.proofs.Common.{◌≡◌, Bool, false, None, Option, Some, if◌then◌else◌, sym, ◌∙◌, subst}
use Rattle.std.specs.Int.{w128}
use Rattle.std.specs.Prelude.{int_div, int_rem}
use Rattle.std.proofs.lemmas.Int.{to_z-of_z}
use Rattle.go_num.specs.Arithmetic.{is_zero}
use Rattle.go_num.specs.declared.value.Value.{Value}
use Rattle.go_num.specs.declared.value.Value.TheVariants.{Int}
use Rattle.go_ops.specs.Limited.{IsGiven}
use Rattle.go_constructs.specs.Operators.Operations.{fit_found}
use Rattle.go_constructs.specs.declared.sort.Sort.TheVariants.{Float}
use Rattle.go_ops.proofs.calculation.float_quotient.Goals as goal

pub returns-else-divides : goal.returns-else-divides
returns-else-divides c =
    let first = to_z-of_z w128 c.args.a c.ranges.a in
    let second = to_z-of_z w128 c.args.b c.ranges.b in
    let rest : is_zero (int_rem c.args.a c.args.b) ≡ false =
    (λ i. is_zero (int_rem (sym first i) (sym second i))) ∙ sym c.divides.ensures ∙ c.if-divides.false
    in
    let given : Option Value → Type 0 = λ v. IsGiven c.no_value_given.result (fit_found v (Float c.args.f)) v in
    subst (λ (whole : Bool). given (if whole then Some (Int (int_div c.args.a c.args.b)) else None)) (sym rest) (c.no_value_given.ensures None)
