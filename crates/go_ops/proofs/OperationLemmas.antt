-- What the tests of an operation come to, by the sorts of its operands.
use Rattle.std.proofs.Common.{◌≡◌, ℕ, Bool, true, false, Some, None, List, [], ◌∷◌, if◌then◌else◌, refl, sym, ap, ◌∙◌}
use Rattle.std.specs.Prelude.{not}
use Rattle.go_module.specs.Rules.{unbuilt_form}
use Rattle.go_judge.specs.declared.outcome.Spot.TheVariants.{Part}
use Rattle.go_judge.specs.Judged.{OutcomeData, RuleTest, Waits, asked, tested}
use Rattle.go_judge.specs.Operands.{are_values, at_whole}
use Rattle.go_judge.specs.Records.{HeaderData, RecData}
use Rattle.go_judge.specs.Headers.{Headers}
use Rattle.go_judge.specs.Types.TypeIdentity.{Test, and_ask}
use Rattle.go_judge.specs.Quests.{Asked, Decided, Done, Lacks, Quest, run, then_ask}
use Rattle.go_judge.proofs.QuestLemmas.{run-then, run-then-Lacks}
use Rattle.go_constructs.specs.Operators.Constants.{overflow_test, record_of}
use Rattle.go_ops.specs.Limited.{kept_tests}
use Rattle.go_constructs.specs.Operators.Matching.{are_kept, are_matched, are_single, common_sort, common_type, given_fit, match_by, not_overflowing}
use Rattle.go_constructs.specs.Operators.Operations.{fit, fit_of_both, is_built, is_by_zero, is_defined_on, operation, value_of}
use Rattle.go_ops.specs.Refusals.{by_part, by_two, by_whole, or_later, two_refused}
use Rattle.go_constructs.specs.Operators.Representable.{not_overflows, not_unkept}
use Rattle.go_constructs.specs.Operators.Rules.{constant_overflow, division_by_zero, mismatched_operands, undefined_binary, unkept_float}
use Rattle.go_constructs.specs.Operators.Sorts.{by_sort, by_sorts, sort_in, sorts_of}
use Rattle.go_ops.specs.Stages.{built_outcome, by_answer, defined_outcome, divided_outcome, first_outcome, fitting_outcome, kept_outcome, matched_outcome, second_outcome, values_outcome}
use Rattle.go_constructs.specs.declared.fit.Fit.{Fit}
use Rattle.go_constructs.specs.declared.operator.Operation.{Operation}
use Rattle.go_constructs.specs.declared.sort.Sort.{Sort}
use Rattle.go_ops.proofs.EndLemmas.{part-by, two-refused, whole-by, whole-lacks, whole-no}
use Rattle.go_ops.proofs.LimitLemmas.{kept-limited}
use Rattle.go_ops.proofs.StageLemmas.{both-decided, given-by, matched-by, sorts-told, where-holds}

module _ (headers : Headers) (op : Operation) (x y : RecData) where
  abbrev fitting : Quest HeaderData Fit
  fitting = fit op x y

  abbrev gives : Quest HeaderData RecData
  gives = by_sorts x y (λ s t. record_of (common_type x y s t) (value_of op x y (common_sort s t)) None)

  -- the tests from one on
  abbrev from_kept : List (RuleTest HeaderData)
  from_kept = are_kept x y ∷ kept_tests fitting

  abbrev from_fitting : List (RuleTest HeaderData)
  from_fitting = overflow_test fitting ∷ from_kept

  abbrev from_divided : List (RuleTest HeaderData)
  from_divided = not_overflowing x y ∷ from_fitting

  abbrev from_zero : List (RuleTest HeaderData)
  from_zero =
      record { rule = division_by_zero; spots = record { spot = Part 1; holds = by_sorts x y (λ s t. not (is_by_zero op x y (common_sort s t))) } ∷ [] }
      ∷ from_divided

  abbrev from_defined : List (RuleTest HeaderData)
  from_defined = at_whole undefined_binary (by_sorts x y (λ s t. is_defined_on op (common_sort s t))) ∷ from_zero

  abbrev from_matched : List (RuleTest HeaderData)
  from_matched = are_matched x y ∷ from_defined

  abbrev from_values : List (RuleTest HeaderData)
  from_values = are_values 0 (x ∷ (y ∷ [])) ∷ (are_single (x ∷ (y ∷ [])) ∷ from_matched)

  abbrev built : Test
  built = and_ask (by_sort x (is_built x)) (by_sort y (is_built y))

  module _ (s t : Sort) (decided : run headers (sorts_of x y) ≡ Decided (s, t)) where
    abbrev c : Sort
    c = common_sort s t

    kept_is : not_overflows (fit_of_both op x y c) ≡ true → tested headers from_kept gives ≡ kept_outcome op x y s t
    kept_is not_over =
        given-by headers x y s t decided (kept_tests fitting) gives unkept_float not_unkept
        ∙ ap (by_two unkept_float (not_unkept (given_fit x s t)) (not_unkept (given_fit y t s)))
        (kept-limited headers fitting gives (fit_of_both op x y c) (record_of (common_type x y s t) (value_of op x y c) None)
        (sorts-told headers x y s t decided (λ s t. fit_of_both op x y (common_sort s t))) not_over
        (sorts-told headers x y s t decided (λ s t. record_of (common_type x y s t) (value_of op x y (common_sort s t)) None)))

    fitting_is : tested headers from_fitting gives ≡ fitting_outcome op x y s t
    fitting_is =
        whole-by headers constant_overflow (then_ask fitting (λ f. Done (not_overflows f))) from_kept gives (not_overflows (fit_of_both op x y c))
        (run-then headers fitting (λ f. Done (not_overflows f)) (fit_of_both op x y c) (sorts-told headers x y s t decided (λ s t. fit_of_both op x y (common_sort s t))))
        ∙ where-holds constant_overflow (not_overflows (fit_of_both op x y c)) (tested headers from_kept gives) (kept_outcome op x y s t) kept_is

    divided_is : tested headers from_divided gives ≡ divided_outcome op x y s t
    divided_is =
        given-by headers x y s t decided from_fitting gives constant_overflow not_overflows
        ∙ ap (by_two constant_overflow (not_overflows (given_fit x s t)) (not_overflows (given_fit y t s))) fitting_is

    zero_is : tested headers from_zero gives ≡ defined_outcome op x y s t
    zero_is =
        part-by headers division_by_zero (by_sorts x y (λ s t. not (is_by_zero op x y (common_sort s t)))) from_divided gives (Part 1) (not (is_by_zero op x y c))
        (sorts-told headers x y s t decided (λ s t. not (is_by_zero op x y (common_sort s t))))
        ∙ ap (by_part division_by_zero (Part 1) (not (is_by_zero op x y c))) divided_is

    defined_is : tested headers from_defined gives ≡ matched_outcome op x y s t
    unfolding matched_outcome
    defined_is =
        whole-by headers undefined_binary (by_sorts x y (λ s t. is_defined_on op (common_sort s t))) from_zero gives (is_defined_on op c)
        (sorts-told headers x y s t decided (λ s t. is_defined_on op (common_sort s t)))
        ∙ ap (by_whole undefined_binary (is_defined_on op c)) zero_is

    matched_is : tested headers from_matched gives ≡ values_outcome headers op x y s t
    unfolding values_outcome
    matched_is = matched-by headers x y s t decided from_defined gives ∙ ap (by_answer mismatched_operands (run headers (match_by x y s t))) defined_is

    values_is : tested headers from_values gives ≡ built_outcome headers op x y s t
    unfolding built_outcome
    values_is = sym (two-refused headers from_matched gives x y) ∙ ap (or_later (two_refused x y)) matched_is

  -- U0, where the sort of the first operand is decided
  module _ (s : Sort) (first : run headers (sort_in x) ≡ Decided s) where
    by_first : run headers built ≡ run headers (if is_built x s then by_sort y (is_built y) else Done false)
    by_first =
        run-then headers (by_sort x (is_built x)) (λ yes. if yes then by_sort y (is_built y) else Done false) (is_built x s)
        (run-then headers (sort_in x) (λ s. Done (is_built x s)) s first)

    where_built : (a : Asked Sort) → run headers (sort_in y) ≡ a → run headers built ≡ run headers (by_sort y (is_built y))
        → second_outcome headers op x y s a ≡ tested headers (at_whole unbuilt_form built ∷ from_values) gives
    unfolding second_outcome
    where_built (Decided t) second is =
        sym (whole-by headers unbuilt_form built from_values gives (is_built y t) (is ∙ run-then headers (sort_in y) (λ t. Done (is_built y t)) t second)
        ∙ ap (by_whole unbuilt_form (is_built y t)) (values_is s t (both-decided headers x y s t first second)))
    where_built (Lacks d) second is =
        sym (whole-lacks headers unbuilt_form built from_values gives d (is ∙ run-then-Lacks headers (sort_in y) (λ t. Done (is_built y t)) d second))

    by_built : (b : Bool) → run headers built ≡ run headers (if b then by_sort y (is_built y) else Done false)
        → by_whole unbuilt_form b (second_outcome headers op x y s (run headers (sort_in y))) ≡ tested headers (at_whole unbuilt_form built ∷ from_values) gives
    by_built true is = where_built (run headers (sort_in y)) refl is
    by_built false is = sym (whole-no headers unbuilt_form built from_values gives is)

    operation-first : first_outcome headers op x y s ≡ asked headers (Some (operation op x y))
    unfolding first_outcome
    operation-first = by_built (is_built x s) by_first

  pub operation-waits : (d : ℕ) → run headers (sort_in x) ≡ Lacks d → Waits d ≡ asked headers (Some (operation op x y))
  operation-waits d lacks =
      sym (whole-lacks headers unbuilt_form built from_values gives d
      (run-then-Lacks headers (by_sort x (is_built x)) (λ yes. if yes then by_sort y (is_built y) else Done false) d
      (run-then-Lacks headers (sort_in x) (λ s. Done (is_built x s)) d lacks)))

  -- what the code finds, from a test on
  pub values-yes : (s t : Sort) (o : OutcomeData RecData) → Decided true ≡ run headers (match_by x y s t) → o ≡ matched_outcome op x y s t → o ≡ values_outcome headers op x y s t
  unfolding values_outcome
  values-yes s t o holds is = is ∙ ap (λ a. by_answer mismatched_operands a (matched_outcome op x y s t)) holds

  pub operation-told : (s : Sort) (o : OutcomeData RecData) → run headers (sort_in x) ≡ Decided s → o ≡ first_outcome headers op x y s → o ≡ asked headers (Some (operation op x y))
  operation-told s o first is = is ∙ operation-first s first
