-- What the tests of a comparison come to, by the sorts of its operands.
use Rattle.std.proofs.Common.{◌≡◌, ◌&&◌, Bool, true, Some, List, [], ◌∷◌, refl, sym, ap, ◌∙◌}
use Rattle.go_module.specs.Rules.{unbuilt_form}
use Rattle.go_num.specs.declared.comparisons.CmpOp.{CmpOp}
use Rattle.go_judge.specs.Judged.{OutcomeData, RuleTest, asked, tested}
use Rattle.go_judge.specs.Operands.{are_values, at_whole}
use Rattle.go_judge.specs.Records.{HeaderData, RecData}
use Rattle.go_judge.specs.Headers.{Headers}
use Rattle.go_judge.specs.Quests.{Asked, Decided, Done, Lacks, Quest, run, then_ask}
use Rattle.go_judge.proofs.QuestLemmas.{run-then-Lacks}
use Rattle.go_ops.specs.ComparisonStages.{built_comparison, fitting_comparison, kept_comparison, matched_comparison, sorts_comparison, values_comparison, whole_comparison}
use Rattle.go_constructs.specs.Operators.Comparisons.{compares, comparison, is_constant_or_no_value}
use Rattle.go_constructs.specs.Operators.Matching.{are_kept, are_matched, are_single, common_sort, given_fit, match_by, not_overflowing}
use Rattle.go_ops.specs.Refusals.{by_two, by_whole, or_later, two_refused}
use Rattle.go_constructs.specs.Operators.Representable.{not_overflows, not_unkept}
use Rattle.go_constructs.specs.Operators.Rules.{constant_overflow, incomparable_operands, mismatched_operands, unkept_float}
use Rattle.go_constructs.specs.Operators.Sorts.{by_sorts, sorts_of}
use Rattle.go_ops.specs.Stages.{by_answer}
use Rattle.go_constructs.specs.declared.sort.Sort.{Sort}
use Rattle.go_ops.proofs.EndLemmas.{two-refused, whole-by, whole-lacks}
use Rattle.go_ops.proofs.StageLemmas.{given-by, matched-by, sorts-told}

module _ (headers : Headers) (op : CmpOp) (x y : RecData) where
  abbrev gives : Quest HeaderData RecData
  gives = (comparison op x y).gives

  -- the tests from one on
  abbrev from_kept : List (RuleTest HeaderData)
  from_kept = are_kept x y ∷ []

  abbrev from_fitting : List (RuleTest HeaderData)
  from_fitting = not_overflowing x y ∷ from_kept

  abbrev from_compared : List (RuleTest HeaderData)
  from_compared = at_whole incomparable_operands (by_sorts x y (λ s t. compares op (common_sort s t))) ∷ from_fitting

  abbrev from_matched : List (RuleTest HeaderData)
  from_matched = are_matched x y ∷ from_compared

  abbrev from_values : List (RuleTest HeaderData)
  from_values = are_values 0 (x ∷ (y ∷ [])) ∷ (are_single (x ∷ (y ∷ [])) ∷ from_matched)

  module _ (s t : Sort) (decided : run headers (sorts_of x y) ≡ Decided (s, t)) where
    kept_is : tested headers from_kept gives ≡ kept_comparison op x y s t
    kept_is = given-by headers x y s t decided [] gives unkept_float not_unkept

    fitting_is : tested headers from_fitting gives ≡ fitting_comparison op x y s t
    fitting_is =
        given-by headers x y s t decided from_kept gives constant_overflow not_overflows
        ∙ ap (by_two constant_overflow (not_overflows (given_fit x s t)) (not_overflows (given_fit y t s))) kept_is

    compared_is : tested headers from_compared gives ≡ matched_comparison op x y s t
    unfolding matched_comparison
    compared_is =
        whole-by headers incomparable_operands (by_sorts x y (λ s t. compares op (common_sort s t))) from_fitting gives (compares op (common_sort s t))
        (sorts-told headers x y s t decided (λ s t. compares op (common_sort s t)))
        ∙ ap (by_whole incomparable_operands (compares op (common_sort s t))) fitting_is

    matched_is : tested headers from_matched gives ≡ sorts_comparison headers op x y s t
    unfolding sorts_comparison
    matched_is = matched-by headers x y s t decided from_compared gives ∙ ap (by_answer mismatched_operands (run headers (match_by x y s t))) compared_is

  values_is : (a : Asked (Sort × Sort)) → run headers (sorts_of x y) ≡ a → tested headers from_matched gives ≡ values_comparison headers op x y a
  unfolding values_comparison
  values_is (Decided pair) is = matched_is pair.0 pair.1 is
  values_is (Lacks d) is =
      whole-lacks headers mismatched_operands (then_ask (sorts_of x y) (λ pair. match_by x y pair.0 pair.1)) from_compared gives d
      (run-then-Lacks headers (sorts_of x y) (λ pair. match_by x y pair.0 pair.1) d is)

  comparison-is : whole_comparison headers op x y ≡ asked headers (Some (comparison op x y))
  unfolding whole_comparison built_comparison
  comparison-is =
      let both = is_constant_or_no_value x && is_constant_or_no_value y in
      sym (whole-by headers unbuilt_form (Done both) from_values gives both refl
      ∙ ap (by_whole unbuilt_form both)
      (sym (two-refused headers from_matched gives x y) ∙ ap (or_later (two_refused x y)) (values_is (run headers (sorts_of x y)) refl)))

  -- what the code finds, from a test on
  pub sorts-yes : (s t : Sort) (o : OutcomeData RecData) → Decided true ≡ run headers (match_by x y s t) → o ≡ matched_comparison op x y s t → o ≡ sorts_comparison headers op x y s t
  unfolding sorts_comparison
  sorts-yes s t o holds is = is ∙ ap (λ a. by_answer mismatched_operands a (matched_comparison op x y s t)) holds

  pub comparison-told : (b : Bool) (o : OutcomeData RecData) → b ≡ (is_constant_or_no_value x && is_constant_or_no_value y)
      → o ≡ by_whole unbuilt_form b (built_comparison headers op x y) → o ≡ asked headers (Some (comparison op x y))
  unfolding whole_comparison
  comparison-told b o built is = is ∙ ap (λ c. by_whole unbuilt_form c (built_comparison headers op x y)) built ∙ comparison-is
