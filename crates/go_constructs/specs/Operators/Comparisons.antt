-- Comparison operators; Constant expressions (Go specification).
-- Decides what is asked of `x op y` where op is a comparison: "Comparison operators compare two operands and yield an
-- untyped boolean value." Own: until assignability is built, U0 stands at a comparison with a value that is no
-- constant.
use Rattle.std.specs.Prelude.{◌&&◌, ◌||◌, not, Bool, Option, Some, None, [], ◌∷◌}
use Rattle.std.specs.Bool.{xor}
use Rattle.go_module.specs.Rules.{unbuilt_form}
use Rattle.go_num.specs.Comparisons.{ints_compared, texts_compared}
use Rattle.go_num.specs.declared.comparisons.CmpOp.{CmpOp}
use Rattle.go_num.specs.declared.comparisons.CmpOp.TheVariants.{Eq, Ne}
use Rattle.go_num.specs.declared.value.Value.{Value}
use Rattle.go_num.specs.declared.value.Value.TheVariants as V
use Rattle.go_term.specs.Types.{basic_type}
use Rattle.go_term.specs.declared.basic.Basic.TheVariants.{UntypedBool}
use Rattle.go_judge.specs.Judged.{Asks}
use Rattle.go_judge.specs.Operands.{are_values, at_whole, is_constant, is_value}
use Rattle.go_judge.specs.Records.{HeaderData, RecData}
use Rattle.go_judge.specs.Quests.{Done}
use Rattle.go_constructs.specs.Operators.Constants.{constant_in, record_of}
use Rattle.go_constructs.specs.Operators.Matching.{are_kept, are_matched, are_single, common_sort, not_overflowing}
use Rattle.go_constructs.specs.Operators.Operations.{given_values, is_boolean, is_numeric, is_text}
use Rattle.go_constructs.specs.Operators.Rules.{incomparable_operands}
use Rattle.go_constructs.specs.Operators.Sorts.{by_sorts}
use Rattle.go_constructs.specs.declared.sort.Sort.{Sort}

abbrev pub is_constant_or_no_value : RecData → Bool
is_constant_or_no_value r = not (is_value r) || is_constant r

-- "Boolean types are comparable", "Integer types are comparable and ordered", "Floating-point types are comparable and
-- ordered", "String types are comparable and ordered"
abbrev pub compares_equal : Sort → Bool
compares_equal s = is_numeric s || (is_text s || is_boolean s)

abbrev pub is_ordered : Sort → Bool
is_ordered s = is_numeric s || is_text s

abbrev pub compares : CmpOp → Sort → Bool
compares Eq s = compares_equal s
compares Ne s = compares_equal s
compares op s = is_ordered s

-- "Two boolean values are equal if they are either both true or both false."
abbrev pub truths_compared : CmpOp → Bool → Bool → Bool
truths_compared Ne p q = xor p q
truths_compared op p q = not (xor p q)

-- of constants
abbrev pub compared_values : CmpOp → Value → Value → Option Value
compared_values op (V.Bool p) (V.Bool q) = Some (V.Bool (truths_compared op p q))
compared_values op (V.Int a) (V.Int b) = Some (V.Bool (ints_compared op a b))
compared_values op (V.Text a) (V.Text b) = Some (V.Bool (texts_compared op a b))
compared_values op a b = None

abbrev pub comparison : CmpOp → RecData → RecData → Asks HeaderData RecData
comparison op x y = record {
  tests =
      at_whole unbuilt_form (Done (is_constant_or_no_value x && is_constant_or_no_value y))
      ∷ (are_values 0 (x ∷ (y ∷ []))
      ∷ (are_single (x ∷ (y ∷ []))
      ∷ (are_matched x y
      ∷ (at_whole incomparable_operands (by_sorts x y (λ s t. compares op (common_sort s t)))
      ∷ (not_overflowing x y
      ∷ (are_kept x y ∷ []))))));
  gives = Done (record_of (basic_type UntypedBool) (given_values None (compared_values op) (constant_in x) (constant_in y)) None);
}
