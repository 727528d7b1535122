-- Constant expressions; Representability (Go specification).
-- What an operation comes to behind the tests on its operands, by how the constant fits that it gives, as the code
-- finds it (own). That the tests of R8, U9, L2 and L3 come to the same: `LimitLemmas`.
use Rattle.std.specs.Prelude.{◌≡◌, ℤ, Option, Some, None, List, [], ◌∷◌}
use Rattle.go_num.specs.Arithmetic.{limited}
use Rattle.go_num.specs.declared.value.NumKind.TheVariants as K
use Rattle.go_num.specs.declared.value.Value.{Value}
use Rattle.go_num.specs.declared.value.Value.TheVariants as V
use Rattle.go_term.specs.Types.{TypeData}
use Rattle.go_judge.specs.declared.outcome.Spot.TheVariants.{Whole}
use Rattle.go_judge.specs.Limits.{wide_integer}
use Rattle.go_judge.specs.Judged.{Broken, Found, OutcomeData, RuleTest}
use Rattle.go_judge.specs.Records.{HeaderData, RecData}
use Rattle.go_judge.specs.Quests.{Quest}
use Rattle.go_constructs.specs.Operators.Constants.{long_test, record_of, unkept_test, wide_test}
use Rattle.go_constructs.specs.Operators.Representable.{fit_of, fit_of_integer}
use Rattle.go_constructs.specs.Operators.Rules.{constant_overflow, long_text, unkept_float}
use Rattle.go_constructs.specs.declared.fit.Fit.{Fit}
use Rattle.go_constructs.specs.declared.fit.Fit.TheVariants.{Differs, Fits, Long, Overflows, Unkept, Wide}
use Rattle.go_ops.specs.declared.limits.Given.{Given}
use Rattle.go_constructs.specs.declared.sort.Sort.{Sort}
use Rattle.go_constructs.specs.declared.sort.Sort.TheVariants as S

-- the rule that it breaks, or what comes later
abbrev pub limited_by : {R : Type 0} → Fit → OutcomeData R → OutcomeData R
limited_by Overflows later = Broken constant_overflow (Whole ∷ [])
limited_by Unkept later = Broken unkept_float (Whole ∷ [])
limited_by Wide later = Broken wide_integer (Whole ∷ [])
limited_by Long later = Broken long_text (Whole ∷ [])
limited_by Fits later = later
limited_by Differs later = later

-- the tests behind R8 alone
abbrev pub kept_tests : Quest HeaderData Fit → List (RuleTest HeaderData)
kept_tests fit = unkept_test fit ∷ (wide_test fit ∷ (long_test fit ∷ []))

-- the outcome of an operation that gives a value of this type, or none, with its span
abbrev pub limited_outcome : TypeData → Option (ℤ × ℤ) → Fit → Option Value → OutcomeData RecData
limited_outcome type span fit value = limited_by fit (Found (record_of type value span))

-- what the code has of the value that constants give: how it fits, and itself where it does
pub record IsGiven (given : Given) (fit : Fit) (value : Option Value) : Type 0 where
  pub fit_is : given.fit ≡ fit
  pub value_is : fit ≡ Fits → given.value ≡ value
  pub kind : fit ≡ Differs → ⊥

-- the outcome of an operation by what the code has
abbrev pub IsLimited : Given → TypeData → Option (ℤ × ℤ) → OutcomeData RecData → Type 0
IsLimited given type span outcome = (fit : Fit) (value : Option Value) → IsGiven given fit value → outcome ≡ limited_outcome type span fit value

-- the code has that constants have no value together
abbrev pub IsGivenNothing : Given → Type 0
IsGivenNothing given = (value : Option Value) → IsGiven given Unkept value

-- and an integer that is there where it is within 128 bits
abbrev pub IsGivenInteger : Given → Option ℤ → Sort → Type 0
IsGivenInteger given value s = (v : ℤ) → limited v ≡ value → IsGiven given (fit_of_integer v s) (Some (V.Int v))

-- how an integer outside 128 bits fits a type of this sort
abbrev pub wide_fit : Sort → Fit
wide_fit (S.Untyped K.Int) = Wide
wide_fit (S.Untyped K.Rune) = Wide
wide_fit (S.Int t) = Overflows
wide_fit (S.Float f) = Unkept
wide_fit s = Differs

-- each value, where there is one, fits a type of this sort
abbrev pub FitsSort : Option Value → Sort → Type 0
FitsSort (Some v) s = fit_of v s ≡ Fits
FitsSort None s = Unit {0}
