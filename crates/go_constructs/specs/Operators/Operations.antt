-- Arithmetic operators; Logical operators; String concatenation; Constant expressions (Go specification).
-- Decides what is asked of `x op y` where op is no comparison and no shift. Own: until assignability is built, U0
-- stands at an operation with an operand whose underlying type is an interface, or with an untyped operand that is no
-- constant.
use Rattle.std.specs.Prelude.{ℤ, ◌&&◌, ◌||◌, ◌++◌, not, Bool, true, false, Option, Some, None, [], ◌∷◌, if◌then◌else◌, int_div, int_rem}
use Rattle.go_module.specs.Rules.{unbuilt_form}
use Rattle.go_num.specs.Arithmetic.{binary_value, divides_by_zero, is_zero}
use Rattle.go_num.specs.declared.arithmetic.IntOp.{IntOp}
use Rattle.go_num.specs.declared.arithmetic.IntOp.TheVariants.{Add, Mul, Quo, Sub}
use Rattle.go_num.specs.declared.value.NumKind.TheVariants as K
use Rattle.go_num.specs.declared.value.Value.{Value}
use Rattle.go_num.specs.declared.value.Value.TheVariants as V
use Rattle.go_judge.specs.declared.outcome.Spot.TheVariants.{Part}
use Rattle.go_judge.specs.Judged.{Asks}
use Rattle.go_judge.specs.Operands.{are_values, at_whole, is_constant, is_value}
use Rattle.go_judge.specs.Records.{HeaderData, RecData}
use Rattle.go_judge.specs.Types.TypeIdentity.{and_ask}
use Rattle.go_judge.specs.Quests.{Quest}
use Rattle.go_constructs.specs.Operators.Constants.{constant_in, long_test, overflow_test, record_of, unkept_test, wide_test}
use Rattle.go_constructs.specs.Operators.Matching.{are_kept, are_matched, are_single, common_sort, common_type, is_number, not_overflowing}
use Rattle.go_constructs.specs.Operators.Representable.{fit_of}
use Rattle.go_constructs.specs.Operators.Rules.{division_by_zero, undefined_binary}
use Rattle.go_constructs.specs.Operators.Sorts.{by_sort, by_sorts}
use Rattle.go_constructs.specs.declared.fit.Fit.{Fit}
use Rattle.go_constructs.specs.declared.fit.Fit.TheVariants.{Fits, Unkept}
use Rattle.go_constructs.specs.declared.operator.Operation.{Operation}
use Rattle.go_constructs.specs.declared.operator.Operation.TheVariants.{And, Arithmetic, Or}
use Rattle.go_constructs.specs.declared.sort.Sort.{Sort}
use Rattle.go_constructs.specs.declared.sort.Sort.TheVariants as S

-- WHAT IS BUILT

abbrev pub is_untyped : Sort → Bool
is_untyped (S.Untyped k) = true
is_untyped s = false

abbrev pub is_interface : Sort → Bool
is_interface S.Interface = true
is_interface s = false

-- U0 stands at no operation with this operand, which has that sort
abbrev pub is_built : RecData → Sort → Bool
is_built r s = not (is_value r && (is_interface s || (is_untyped s && not (is_constant r))))

-- WHAT AN OPERATOR IS DEFINED ON

abbrev pub is_numeric : Sort → Bool
is_numeric (S.Untyped k) = is_number k
is_numeric (S.Int t) = true
is_numeric (S.Float f) = true
is_numeric s = false

abbrev pub is_integer : Sort → Bool
is_integer (S.Untyped k) = is_number k
is_integer (S.Int t) = true
is_integer s = false

abbrev pub is_text : Sort → Bool
is_text (S.Untyped K.Text) = true
is_text S.Text = true
is_text s = false

abbrev pub is_boolean : Sort → Bool
is_boolean (S.Untyped K.Bool) = true
is_boolean S.Bool = true
is_boolean s = false

-- "+ sum: integers, floats, complex values, strings"; "- difference, * product, / quotient: integers, floats, complex
-- values"; "% remainder, & bitwise AND, | bitwise OR, ^ bitwise XOR, &^ bit clear: integers"; "Logical operators apply
-- to boolean values"
abbrev pub is_defined_on : Operation → Sort → Bool
is_defined_on (Arithmetic Add) s = is_numeric s || is_text s
is_defined_on (Arithmetic Sub) s = is_numeric s
is_defined_on (Arithmetic Mul) s = is_numeric s
is_defined_on (Arithmetic Quo) s = is_numeric s
is_defined_on (Arithmetic op) s = is_integer s
is_defined_on And s = is_boolean s
is_defined_on Or s = is_boolean s

-- DIVISION BY ZERO

abbrev pub has_no_quotient : Operation → Option Value → Bool
has_no_quotient (Arithmetic op) (Some (V.Int b)) = divides_by_zero op b
has_no_quotient op v = false

-- "If the divisor is a constant, it must not be zero", of integers, and "The divisor of a constant division or
-- remainder operation must not be zero"
abbrev pub is_by_zero : Operation → RecData → RecData → Sort → Bool
is_by_zero op x y s = has_no_quotient op (constant_in y) && (is_integer s || is_constant x)

-- CONSTANT OPERATIONS

-- on numbers: an integer's quotient is truncated, a float's is exact, and a constant where it is a whole number (own)
abbrev pub of_numbers : IntOp → Sort → ℤ → ℤ → Option Value
of_numbers Quo (S.Float f) a b = if is_zero (int_rem a b) then Some (V.Int (int_div a b)) else None
of_numbers op s a b = Some (V.Int (binary_value op a b))

-- "Strings can be concatenated using the + operator"; "&& conditional AND: p && q is "if p then q else false"", "||
-- conditional OR: p || q is "if p then true else q""
abbrev pub of_values : Operation → Sort → Value → Value → Option Value
of_values (Arithmetic op) s (V.Int a) (V.Int b) = of_numbers op s a b
of_values (Arithmetic Add) s (V.Text a) (V.Text b) = Some (V.Text (a ++ b))
of_values And s (V.Bool p) (V.Bool q) = Some (V.Bool (p && q))
of_values Or s (V.Bool p) (V.Bool q) = Some (V.Bool (p || q))
of_values op s a b = None

-- of constants, where both operands are
abbrev pub given_values : {A : Type 0} → A → (Value → Value → A) → Option Value → Option Value → A
given_values other both (Some a) (Some b) = both a b
given_values other both a b = other

-- the value that two operands give whose type has this sort, and how it fits
abbrev pub value_of : Operation → RecData → RecData → Sort → Option Value
value_of op x y s = given_values None (of_values op s) (constant_in x) (constant_in y)

-- none: a float's quotient that is no whole number; else the rules before exclude it
abbrev pub fit_found : Option Value → Sort → Fit
fit_found (Some v) s = fit_of v s
fit_found None s = Unkept

abbrev pub fit_of_both : Operation → RecData → RecData → Sort → Fit
fit_of_both op x y s = given_values Fits (λ a b. fit_found (of_values op s a b) s) (constant_in x) (constant_in y)

abbrev pub fit : Operation → RecData → RecData → Quest HeaderData Fit
fit op x y = by_sorts x y (λ s t. fit_of_both op x y (common_sort s t))

-- THE OPERATION

-- own: what it gives is held against its type where each constant fits that it is made of; else R8 and U9 stand at the
-- constants alone

abbrev pub operation : Operation → RecData → RecData → Asks HeaderData RecData
operation op x y = record {
  tests =
      at_whole unbuilt_form (and_ask (by_sort x (is_built x)) (by_sort y (is_built y)))
      ∷ (are_values 0 (x ∷ (y ∷ []))
      ∷ (are_single (x ∷ (y ∷ []))
      ∷ (are_matched x y
      ∷ (at_whole undefined_binary (by_sorts x y (λ s t. is_defined_on op (common_sort s t)))
      ∷ (record { rule = division_by_zero; spots = record { spot = Part 1; holds = by_sorts x y (λ s t. not (is_by_zero op x y (common_sort s t))) } ∷ [] }
      ∷ (not_overflowing x y
      ∷ (overflow_test (fit op x y)
      ∷ (are_kept x y
      ∷ (unkept_test (fit op x y)
      ∷ (wide_test (fit op x y)
      ∷ (long_test (fit op x y) ∷ [])))))))))));
  gives = by_sorts x y (λ s t. record_of (common_type x y s t) (value_of op x y (common_sort s t)) None);
}
