-- Comparisons from a test on: as the code finds them.
-- That the tests of a comparison come to the same: `ComparisonLemmas`.
use Rattle.std.specs.Prelude.{◌&&◌, Option, None}
use Rattle.go_module.specs.Rules.{unbuilt_form}
use Rattle.go_num.specs.declared.comparisons.CmpOp.{CmpOp}
use Rattle.go_num.specs.declared.value.Value.{Value}
use Rattle.go_term.specs.Types.{basic_type}
use Rattle.go_term.specs.declared.basic.Basic.TheVariants.{UntypedBool}
use Rattle.go_judge.specs.Judged.{Found, OutcomeData, Waits}
use Rattle.go_judge.specs.Records.{RecData}
use Rattle.go_judge.specs.Headers.{Headers}
use Rattle.go_judge.specs.Quests.{Asked, Decided, Lacks, run}
use Rattle.go_constructs.specs.Operators.Comparisons.{compared_values, compares, is_constant_or_no_value}
use Rattle.go_constructs.specs.Operators.Constants.{constant_in, record_of}
use Rattle.go_constructs.specs.Operators.Matching.{common_sort, given_fit, match_by}
use Rattle.go_constructs.specs.Operators.Operations.{given_values}
use Rattle.go_ops.specs.Refusals.{by_two, by_whole, or_later, two_refused}
use Rattle.go_constructs.specs.Operators.Representable.{not_overflows, not_unkept}
use Rattle.go_constructs.specs.Operators.Rules.{constant_overflow, incomparable_operands, mismatched_operands, unkept_float}
use Rattle.go_constructs.specs.Operators.Sorts.{sorts_of}
use Rattle.go_ops.specs.Stages.{by_answer}
use Rattle.go_constructs.specs.declared.sort.Sort.{Sort}

-- what two operands give
abbrev pub compared_both : CmpOp → Option Value → Option Value → Option Value
compared_both op v w = given_values None (compared_values op) v w

abbrev pub truth_outcome : CmpOp → RecData → RecData → OutcomeData RecData
truth_outcome op x y = Found (record_of (basic_type UntypedBool) (compared_both op (constant_in x) (constant_in y)) None)

module _ (op : CmpOp) (x y : RecData) (s t : Sort) where
  -- from U9, from R8 at the constants that are given a type on
  abbrev pub kept_comparison : OutcomeData RecData
  kept_comparison = by_two unkept_float (not_unkept (given_fit x s t)) (not_unkept (given_fit y t s)) (truth_outcome op x y)

  abbrev pub fitting_comparison : OutcomeData RecData
  fitting_comparison = by_two constant_overflow (not_overflows (given_fit x s t)) (not_overflows (given_fit y t s)) kept_comparison

  -- from R6 on
  unfoldable pub matched_comparison : OutcomeData RecData
  matched_comparison = by_whole incomparable_operands (compares op (common_sort s t)) fitting_comparison

module _ (headers : Headers) (op : CmpOp) (x y : RecData) where
  -- from R4, from R1 on, and from U0 on
  unfoldable pub sorts_comparison : Sort → Sort → OutcomeData RecData
  sorts_comparison s t = by_answer mismatched_operands (run headers (match_by x y s t)) (matched_comparison op x y s t)

  unfoldable pub values_comparison : Asked (Sort × Sort) → OutcomeData RecData
  values_comparison (Decided pair) = sorts_comparison pair.0 pair.1
  values_comparison (Lacks d) = Waits d

  unfoldable pub built_comparison : OutcomeData RecData
  built_comparison = or_later (two_refused x y) (values_comparison (run headers (sorts_of x y)))

  unfoldable pub whole_comparison : OutcomeData RecData
  whole_comparison = by_whole unbuilt_form (is_constant_or_no_value x && is_constant_or_no_value y) built_comparison
