-- Operators; Integer operators; Constant expressions (Go specification).
-- Decides what is asked of a shift: "The right operand in a shift expression must have integer type or be an untyped
-- constant representable by a value of type uint. If the left operand of a non-constant shift expression is an untyped
-- constant, it is first implicitly converted to the type it would assume if the shift expression were replaced by its
-- left operand alone." Own: a shift of an untyped rune is an untyped rune.
use Rattle.std.specs.Prelude.{ℤ, pos, negsuc, ◌&&◌, Bool, true, false, Option, Some, None, [], ◌∷◌}
use Rattle.go_num.specs.Ranges.{fits}
use Rattle.go_num.specs.Shifts.{shift_value}
use Rattle.go_num.specs.declared.ranges.IntType.TheVariants.{Uint}
use Rattle.go_num.specs.declared.value.Value.{Value}
use Rattle.go_num.specs.declared.value.Value.TheVariants as V
use Rattle.go_judge.specs.Judged.{Asks}
use Rattle.go_judge.specs.Operands.{are_values, at_whole, type_or_none}
use Rattle.go_judge.specs.Records.{HeaderData, RecData}
use Rattle.go_judge.specs.Types.TypeIdentity.{and_ask}
use Rattle.go_judge.specs.Quests.{Quest}
use Rattle.go_constructs.specs.Operators.Constants.{constant_in, limit_tests, record_of}
use Rattle.go_constructs.specs.Operators.Matching.{are_single, is_number}
use Rattle.go_constructs.specs.Operators.Operations.{fit_found, given_values, is_integer}
use Rattle.go_constructs.specs.Operators.Rules.{invalid_shift}
use Rattle.go_constructs.specs.Operators.Sorts.{by_sort, by_sorts}
use Rattle.go_constructs.specs.declared.fit.Fit.{Fit}
use Rattle.go_constructs.specs.declared.fit.Fit.TheVariants.{Fits}
use Rattle.go_constructs.specs.declared.sort.Sort.{Sort}
use Rattle.go_constructs.specs.declared.sort.Sort.TheVariants as S

-- THE COUNT

-- "the shift count specified by the right operand, which must be non-negative"
abbrev pub is_not_negative : Option Value → Bool
is_not_negative (Some (V.Int (negsuc n))) = false
is_not_negative v = true

-- own, of an untyped integer that is no constant: each constant in it whose final type is `uint`
abbrev pub span_fits : Option (ℤ × ℤ) → Bool
span_fits (Some (least, greatest)) = fits least Uint && fits greatest Uint
span_fits None = false

-- an untyped integer: a constant, or a value with this span
abbrev pub represents_count : Option Value → Option (ℤ × ℤ) → Bool
represents_count (Some (V.Int v)) span = fits v Uint
represents_count (Some v) span = false
represents_count None span = span_fits span

abbrev pub is_count : RecData → Sort → Bool
is_count r (S.Int t) = is_not_negative (constant_in r)
is_count r (S.Untyped k) = is_number k && represents_count (constant_in r) r.span
is_count r s = false

-- THE VALUE

abbrev pub shifted_by : Bool → ℤ → ℤ → ℤ
shifted_by left a (pos n) = shift_value left a n
shifted_by left a (negsuc n) = a

abbrev pub shifted_value : Bool → Value → Value → Option Value
shifted_value left (V.Int a) (V.Int n) = Some (V.Int (shifted_by left a n))
shifted_value left v w = None

abbrev pub shift_fit : Bool → RecData → RecData → Quest HeaderData Fit
shift_fit left x y = by_sorts x y (λ s t. given_values Fits (λ v w. fit_found (shifted_value left v w) s) (constant_in x) (constant_in y))

-- the constants in an untyped value whose final type is its own: a constant itself
abbrev pub span_by : Option Value → Option (ℤ × ℤ) → Option (ℤ × ℤ)
span_by (Some (V.Int v)) span = Some (v, v)
span_by v span = span

abbrev pub span_of : RecData → Sort → Option (ℤ × ℤ)
span_of x (S.Untyped k) = span_by (constant_in x) x.span
span_of x s = None

-- THE SHIFT

-- one that is not allowed has no value, so R9 is asked before R8 and L2
abbrev pub shift : Bool → RecData → RecData → Asks HeaderData RecData
shift left x y = record {
  tests =
      are_values 0 (x ∷ (y ∷ []))
      ∷ (are_single (x ∷ (y ∷ []))
      ∷ (at_whole invalid_shift (and_ask (by_sort x is_integer) (by_sort y (is_count y)))
      ∷ limit_tests (shift_fit left x y)));
  gives = by_sorts x y (λ s t. record_of (type_or_none x) (given_values None (shifted_value left) (constant_in x) (constant_in y)) (span_of x s));
}
