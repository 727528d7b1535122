-- What the tests of R8, U9, L2 and L3 come to, by how the constant fits; and how integers outside 128 bits fit.
use Rattle.std.proofs.Common.{◌≡◌, Bool, true, false, List, [], ◌∷◌, refl, ap, ◌∙◌}
use Rattle.go_base.specs.declared.rule.Rule.{Rule}
use Rattle.go_judge.specs.Limits.{wide_integer}
use Rattle.go_judge.specs.Judged.{Found, RuleTest, made, tested}
use Rattle.go_judge.specs.Operands.{at_whole}
use Rattle.go_judge.specs.Records.{HeaderData, RecData}
use Rattle.go_judge.specs.Headers.{Headers}
use Rattle.go_judge.specs.Quests.{Asked, Decided, Done, Quest, run, then_ask}
use Rattle.go_judge.proofs.QuestLemmas.{run-then}
use Rattle.go_constructs.specs.Operators.Constants.{limit_tests, long_test, wide_test}
use Rattle.go_ops.specs.Limited.{kept_tests, limited_by}
use Rattle.go_ops.specs.Refusals.{by_whole}
use Rattle.go_constructs.specs.Operators.Representable.{not_long, not_overflows, not_unkept, not_wide}
use Rattle.go_constructs.specs.Operators.Rules.{constant_overflow, long_text, unkept_float}
use Rattle.go_constructs.specs.declared.fit.Fit.{Fit}
use Rattle.go_constructs.specs.declared.fit.Fit.TheVariants.{Differs, Fits, Long, Overflows, Unkept, Wide}
use Rattle.go_ops.proofs.EndLemmas.{whole-by}

module _ (headers : Headers) (q : Quest HeaderData Fit) (gives : Quest HeaderData RecData) where
  step : (rule : Rule) (holds : Fit → Bool) (ts : List (RuleTest HeaderData)) (f : Fit) → run headers q ≡ Decided f
      → tested headers (at_whole rule (then_ask q (λ f. Done (holds f))) ∷ ts) gives ≡ by_whole rule (holds f) (tested headers ts gives)
  step rule holds ts f e = whole-by headers rule (then_ask q (λ f. Done (holds f))) ts gives (holds f) (run-then headers q (λ f. Done (holds f)) f e)

  -- behind R8
  by_kept : (f : Fit) → run headers q ≡ Decided f → not_overflows f ≡ true → tested headers (kept_tests q) gives ≡ limited_by f (made (run headers gives))
  by_kept Overflows e not = absurd (let never : false ≡ true = not in cc)
  by_kept Unkept e not = step unkept_float not_unkept (wide_test q ∷ (long_test q ∷ [])) Unkept e
  by_kept Wide e not =
      step unkept_float not_unkept (wide_test q ∷ (long_test q ∷ [])) Wide e
      ∙ step wide_integer not_wide (long_test q ∷ []) Wide e
  by_kept Long e not =
      step unkept_float not_unkept (wide_test q ∷ (long_test q ∷ [])) Long e
      ∙ step wide_integer not_wide (long_test q ∷ []) Long e
      ∙ step long_text not_long [] Long e
  by_kept Fits e not =
      step unkept_float not_unkept (wide_test q ∷ (long_test q ∷ [])) Fits e
      ∙ step wide_integer not_wide (long_test q ∷ []) Fits e
      ∙ step long_text not_long [] Fits e
  by_kept Differs e not =
      step unkept_float not_unkept (wide_test q ∷ (long_test q ∷ [])) Differs e
      ∙ step wide_integer not_wide (long_test q ∷ []) Differs e
      ∙ step long_text not_long [] Differs e

  -- and with it
  by_limits : (f : Fit) → run headers q ≡ Decided f → tested headers (limit_tests q) gives ≡ limited_by f (made (run headers gives))
  by_limits Overflows e = step constant_overflow not_overflows (kept_tests q) Overflows e
  by_limits Unkept e = step constant_overflow not_overflows (kept_tests q) Unkept e ∙ by_kept Unkept e refl
  by_limits Wide e = step constant_overflow not_overflows (kept_tests q) Wide e ∙ by_kept Wide e refl
  by_limits Long e = step constant_overflow not_overflows (kept_tests q) Long e ∙ by_kept Long e refl
  by_limits Fits e = step constant_overflow not_overflows (kept_tests q) Fits e ∙ by_kept Fits e refl
  by_limits Differs e = step constant_overflow not_overflows (kept_tests q) Differs e ∙ by_kept Differs e refl

  pub kept-limited : (f : Fit) (r : RecData) → run headers q ≡ Decided f → not_overflows f ≡ true → run headers gives ≡ Decided r → tested headers (kept_tests q) gives ≡ limited_by f (Found r)
  kept-limited f r e not is = by_kept f e not ∙ ap (λ (a : Asked RecData). limited_by f (made a)) is

  pub tests-limited : (f : Fit) (r : RecData) → run headers q ≡ Decided f → run headers gives ≡ Decided r → tested headers (limit_tests q) gives ≡ limited_by f (Found r)
  tests-limited f r e is = by_limits f e ∙ ap (λ (a : Asked RecData). limited_by f (made a)) is
