-- Operations from a test on, where the sorts of their operands are known: as the code finds them.
-- That the tests of an operation come to the same: `OperationLemmas`.
use Rattle.std.specs.Prelude.{◌≡◌, not, Bool, true, Option, Some, None, [], unwrap_or}
use Rattle.go_base.specs.declared.rule.Rule.{Rule}
use Rattle.go_module.specs.Rules.{unbuilt_form}
use Rattle.go_num.specs.declared.value.Value.{Value}
use Rattle.go_num.specs.declared.value.Value.TheVariants as V
use Rattle.go_term.specs.Types.{TypeData, list, of_list}
use Rattle.go_judge.specs.declared.outcome.Spot.TheVariants.{Part}
use Rattle.go_judge.specs.declared.rec.Rec.{Rec}
use Rattle.go_judge.specs.Judged.{Found, OutcomeData, Waits}
use Rattle.go_judge.specs.Records.{RecData, rec_view}
use Rattle.go_judge.specs.Headers.{Headers}
use Rattle.go_judge.specs.Quests.{Asked, Decided, Lacks, run}
use Rattle.go_constructs.specs.Operators.Constants.{constant_in, record_of}
use Rattle.go_ops.specs.Limited.{limited_by}
use Rattle.go_constructs.specs.Operators.Matching.{common_sort, common_type, given_fit, match_by}
use Rattle.go_constructs.specs.Operators.Operations.{fit_found, fit_of_both, given_values, has_no_quotient, is_boolean, is_built, is_by_zero, is_defined_on, is_numeric, is_text, of_values, value_of}
use Rattle.go_ops.specs.Refusals.{by_part, by_two, by_whole, or_later, two_refused}
use Rattle.go_constructs.specs.Operators.Representable.{not_overflows, not_unkept}
use Rattle.go_constructs.specs.Operators.Rules.{constant_overflow, division_by_zero, mismatched_operands, undefined_binary, unkept_float}
use Rattle.go_constructs.specs.Operators.Sorts.{sort_in}
use Rattle.go_constructs.specs.declared.fit.Fit.{Fit}
use Rattle.go_constructs.specs.declared.fit.Fit.TheVariants.{Fits}
use Rattle.go_constructs.specs.declared.operator.Operation.{Operation}
use Rattle.go_constructs.specs.declared.sort.Sort.{Sort}
use Rattle.go_constructs.specs.declared.sort.Sort.TheVariants as S

-- a rule that is asked of the node as a whole, by what its question comes to
abbrev pub by_answer : {R : Type 0} → Rule → Asked Bool → OutcomeData R → OutcomeData R
by_answer rule (Decided holds) later = by_whole rule holds later
by_answer rule (Lacks d) later = Waits d

-- WHAT IS KNOWN OF OPERANDS

-- two constants of one kind are of that of this sort
abbrev pub are_of : Value → Value → Sort → Bool
are_of (V.Bool p) (V.Bool q) c = is_boolean c
are_of (V.Int a) (V.Int b) c = is_numeric c
are_of (V.Text a) (V.Text b) c = is_text c
are_of a b c = true

abbrev pub both_of : Option Value → Option Value → Sort → Bool
both_of v w c = given_values true (λ a b. are_of a b c) v w

-- neither, or not both of them a quotient that there is
abbrev pub both_divide : Operation → Option Value → Option Value → Bool
both_divide op v w = given_values true (λ a b. not (has_no_quotient op (Some b))) v w

-- how what two constants give fits, and itself
abbrev pub fit_of_values : Operation → Sort → Option Value → Option Value → Fit
fit_of_values op s v w = given_values Fits (λ a b. fit_found (of_values op s a b) s) v w

abbrev pub value_of_values : Operation → Sort → Option Value → Option Value → Option Value
value_of_values op s v w = given_values None (of_values op s) v w

abbrev pub constant_of : Rec → Option Value
constant_of r = constant_in (rec_view r)

-- two operands of these sorts: one without a type has none that operators are defined on, and constants are of the kind
-- of the type that both have then
pub record AreOf (x y : Rec) (s t : Sort) : Type 0 where
  pub first : x.ty ≡ None → s ≡ S.Other
  pub second : y.ty ≡ None → t ≡ S.Other
  pub kind : both_of (constant_of x) (constant_of y) (common_sort s t) ≡ true

-- an operand's type
abbrev pub type_there : Option TypeData → TypeData
type_there type = unwrap_or type (of_list list [])

-- OPERATIONS

module _ (op : Operation) (x y : RecData) (s t : Sort) where
  -- by what the operation gives
  abbrev pub given_outcome : OutcomeData RecData
  given_outcome = limited_by (fit_of_both op x y (common_sort s t)) (Found (record_of (common_type x y s t) (value_of op x y (common_sort s t)) None))

  -- from U9 at the constants that are given a type on
  abbrev pub kept_outcome : OutcomeData RecData
  kept_outcome = by_two unkept_float (not_unkept (given_fit x s t)) (not_unkept (given_fit y t s)) given_outcome

  -- from R8 of what the operation gives on, and of these constants
  abbrev pub fitting_outcome : OutcomeData RecData
  fitting_outcome = by_whole constant_overflow (not_overflows (fit_of_both op x y (common_sort s t))) kept_outcome

  abbrev pub divided_outcome : OutcomeData RecData
  divided_outcome = by_two constant_overflow (not_overflows (given_fit x s t)) (not_overflows (given_fit y t s)) fitting_outcome

  -- from R7, from R5 on
  abbrev pub defined_outcome : OutcomeData RecData
  defined_outcome = by_part division_by_zero (Part 1) (not (is_by_zero op x y (common_sort s t))) divided_outcome

  unfoldable pub matched_outcome : OutcomeData RecData
  matched_outcome = by_whole undefined_binary (is_defined_on op (common_sort s t)) defined_outcome

module _ (headers : Headers) (op : Operation) (x y : RecData) (s : Sort) where
  -- from R4, from R1 on
  unfoldable pub values_outcome : Sort → OutcomeData RecData
  values_outcome t = by_answer mismatched_operands (run headers (match_by x y s t)) (matched_outcome op x y s t)

  unfoldable pub built_outcome : Sort → OutcomeData RecData
  built_outcome t = or_later (two_refused x y) (values_outcome t)

  -- from U0 on, by the second operand, and by both
  unfoldable pub second_outcome : Asked Sort → OutcomeData RecData
  second_outcome (Decided t) = by_whole unbuilt_form (is_built y t) (built_outcome t)
  second_outcome (Lacks d) = Waits d

  unfoldable pub first_outcome : OutcomeData RecData
  first_outcome = by_whole unbuilt_form (is_built x s) (second_outcome (run headers (sort_in y)))
