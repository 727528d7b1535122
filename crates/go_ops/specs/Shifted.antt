-- Operators; Integer operators (Go specification).
-- What a shift comes to behind the tests on its operands, by the sorts of their types, as the code finds it (own). That
-- the tests of the shift come to the same: `ShiftLemmas`.
use Rattle.std.specs.Prelude.{◌≡◌, Bool, true, Option, Some, None, List, ◌∷◌}
use Rattle.go_num.specs.Ranges.{fits}
use Rattle.go_num.specs.declared.ranges.IntType.TheVariants.{Uint}
use Rattle.go_num.specs.declared.value.Value.{Value}
use Rattle.go_num.specs.declared.value.Value.TheVariants as V
use Rattle.go_judge.specs.Judged.{Asks, OutcomeData, RuleTest, Waits}
use Rattle.go_judge.specs.Operands.{at_whole, type_or_none}
use Rattle.go_judge.specs.Records.{HeaderData, RecData}
use Rattle.go_judge.specs.Types.TypeIdentity.{and_ask}
use Rattle.go_judge.specs.Quests.{Asked, Decided, Lacks, Quest}
use Rattle.go_constructs.specs.Operators.Constants.{constant_in, limit_tests}
use Rattle.go_ops.specs.Limited.{limited_outcome}
use Rattle.go_constructs.specs.Operators.Operations.{fit_found, given_values, is_integer}
use Rattle.go_ops.specs.Refusals.{by_whole}
use Rattle.go_constructs.specs.Operators.Rules.{invalid_shift}
use Rattle.go_constructs.specs.Operators.Shifts.{is_count, shift, shift_fit, shifted_value, span_of}
use Rattle.go_constructs.specs.Operators.Sorts.{by_sort}
use Rattle.go_constructs.specs.declared.fit.Fit.{Fit}
use Rattle.go_constructs.specs.declared.fit.Fit.TheVariants.{Fits}
use Rattle.go_constructs.specs.declared.sort.Sort.{Sort}

-- the tests behind those on operands, and the record
abbrev pub shift_tests : Bool → RecData → RecData → List (RuleTest HeaderData)
shift_tests left x y = at_whole invalid_shift (and_ask (by_sort x is_integer) (by_sort y (is_count y))) ∷ limit_tests (shift_fit left x y)

abbrev pub shift_gives : Bool → RecData → RecData → Quest HeaderData RecData
shift_gives left x y = (shift left x y).gives

abbrev pub shift_asks : Bool → RecData → RecData → Asks HeaderData RecData
shift_asks left x y = record { tests = shift_tests left x y; gives = shift_gives left x y }

-- the value that two constants give, and how it fits a left operand of this sort
abbrev pub value_of_both : Bool → Option Value → Option Value → Option Value
value_of_both left v w = given_values None (shifted_value left) v w

abbrev pub fit_of_both : Bool → Sort → Option Value → Option Value → Fit
fit_of_both left s v w = given_values Fits (λ v w. fit_found (shifted_value left v w) s) v w

-- a left operand of this sort and a count: what they come to
abbrev pub counted_outcome : Bool → RecData → RecData → Sort → OutcomeData RecData
counted_outcome left x y s = limited_outcome (type_or_none x) (span_of x s) (fit_of_both left s (constant_in x) (constant_in y)) (value_of_both left (constant_in x) (constant_in y))

-- and a right operand, by the sort of its type
abbrev pub outcome_by_second : Bool → RecData → RecData → Sort → Asked Sort → OutcomeData RecData
outcome_by_second left x y s (Decided t) = by_whole invalid_shift (is_count y t) (counted_outcome left x y s)
outcome_by_second left x y s (Lacks d) = Waits d

-- by the sort of the left one, and then that of the right one
abbrev pub outcome_by_first : Bool → RecData → RecData → Asked Sort → Asked Sort → OutcomeData RecData
outcome_by_first left x y (Decided s) second = by_whole invalid_shift (is_integer s) (outcome_by_second left x y s second)
outcome_by_first left x y (Lacks d) second = Waits d

-- a count, where it is a constant, is one of the type `uint`
abbrev pub IsUint : Option Value → Type 0
IsUint (Some (V.Int v)) = fits v Uint ≡ true
IsUint value = Unit {0}
