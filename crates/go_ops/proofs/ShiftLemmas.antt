-- What the tests of a shift come to, by the sorts of its operands.
use Rattle.std.proofs.Common.{◌≡◌, Bool, true, false, if◌then◌else◌, refl, ap, sym, ◌∙◌}
use Rattle.go_judge.specs.Judged.{tested}
use Rattle.go_judge.specs.Operands.{type_or_none}
use Rattle.go_judge.specs.Records.{RecData}
use Rattle.go_judge.specs.Headers.{Headers}
use Rattle.go_judge.specs.Types.TypeIdentity.{Test, and_ask}
use Rattle.go_judge.specs.Quests.{Asked, Decided, Done, Lacks, run}
use Rattle.go_judge.proofs.QuestLemmas.{run-then, run-then-Lacks}
use Rattle.go_constructs.specs.Operators.Constants.{constant_in, limit_tests, record_of}
use Rattle.go_constructs.specs.Operators.Operations.{is_integer}
use Rattle.go_ops.specs.Refusals.{by_whole}
use Rattle.go_constructs.specs.Operators.Rules.{invalid_shift}
use Rattle.go_ops.specs.Shifted.{counted_outcome, fit_of_both, outcome_by_first, outcome_by_second, shift_gives, shift_tests, value_of_both}
use Rattle.go_constructs.specs.Operators.Shifts.{is_count, shift_fit, span_of}
use Rattle.go_constructs.specs.Operators.Sorts.{by_sort, by_sorts, sort_in, sorts_of}
use Rattle.go_constructs.specs.declared.sort.Sort.{Sort}
use Rattle.go_ops.proofs.EndLemmas.{whole-by, whole-lacks, whole-no}
use Rattle.go_ops.proofs.LimitLemmas.{tests-limited}
use Rattle.go_ops.proofs.SortLemmas.{both-sorts}

module _ (headers : Headers) (left : Bool) (x y : RecData) where
  -- R9
  abbrev counts : Test
  counts = and_ask (by_sort x is_integer) (by_sort y (is_count y))

  module _ (s : Sort) (first : run headers (sort_in x) ≡ Decided s) where
    -- of an integer, by the right operand
    second_asked : is_integer s ≡ true → run headers counts ≡ run headers (by_sort y (is_count y))
    second_asked holds =
        run-then headers (by_sort x is_integer) (λ b. if b then by_sort y (is_count y) else Done false) true
        (run-then headers (sort_in x) (λ s. Done (is_integer s)) s first ∙ ap (λ (b : Bool). Decided b) holds)

    not_asked : is_integer s ≡ false → run headers counts ≡ Decided false
    not_asked fails =
        run-then headers (by_sort x is_integer) (λ b. if b then by_sort y (is_count y) else Done false) false
        (run-then headers (sort_in x) (λ s. Done (is_integer s)) s first ∙ ap (λ (b : Bool). Decided b) fails)

    module _ (t : Sort) (second : run headers (sort_in y) ≡ Decided t) where
      told : {A : Type 0} (answer : Sort → Sort → A) → run headers (by_sorts x y answer) ≡ Decided (answer s t)
      told answer = run-then headers (sorts_of x y) (λ pair. Done (answer pair.0 pair.1)) (s, t) (both-sorts headers x y s t first second)

      counted : tested headers (limit_tests (shift_fit left x y)) (shift_gives left x y) ≡ counted_outcome left x y s
      counted =
          tests-limited headers (shift_fit left x y) (shift_gives left x y) (fit_of_both left s (constant_in x) (constant_in y))
          (record_of (type_or_none x) (value_of_both left (constant_in x) (constant_in y)) (span_of x s))
          (told (λ s t. fit_of_both left s (constant_in x) (constant_in y)))
          (told (λ s t. record_of (type_or_none x) (value_of_both left (constant_in x) (constant_in y)) (span_of x s)))

      by_count : is_integer s ≡ true → tested headers (shift_tests left x y) (shift_gives left x y) ≡ by_whole invalid_shift (is_count y t) (counted_outcome left x y s)
      by_count holds =
          whole-by headers invalid_shift counts (limit_tests (shift_fit left x y)) (shift_gives left x y) (is_count y t)
          (second_asked holds ∙ run-then headers (sort_in y) (λ t. Done (is_count y t)) t second)
          ∙ ap (by_whole invalid_shift (is_count y t)) counted

    by_second : is_integer s ≡ true → (a : Asked Sort) → run headers (sort_in y) ≡ a → tested headers (shift_tests left x y) (shift_gives left x y) ≡ outcome_by_second left x y s a
    by_second holds (Decided t) e = by_count t e holds
    by_second holds (Lacks d) e =
        whole-lacks headers invalid_shift counts (limit_tests (shift_fit left x y)) (shift_gives left x y) d
        (second_asked holds ∙ run-then-Lacks headers (sort_in y) (λ t. Done (is_count y t)) d e)

    by_integer : (b : Bool) → is_integer s ≡ b → tested headers (shift_tests left x y) (shift_gives left x y) ≡ by_whole invalid_shift b (outcome_by_second left x y s (run headers (sort_in y)))
    by_integer true holds = by_second holds (run headers (sort_in y)) refl
    by_integer false fails = whole-no headers invalid_shift counts (limit_tests (shift_fit left x y)) (shift_gives left x y) (not_asked fails)

  by_first : (a : Asked Sort) → run headers (sort_in x) ≡ a → tested headers (shift_tests left x y) (shift_gives left x y) ≡ outcome_by_first left x y a (run headers (sort_in y))
  by_first (Decided s) e = by_integer s e (is_integer s) refl
  by_first (Lacks d) e =
      whole-lacks headers invalid_shift counts (limit_tests (shift_fit left x y)) (shift_gives left x y) d
      (run-then-Lacks headers (by_sort x is_integer) (λ b. if b then by_sort y (is_count y) else Done false) d
      (run-then-Lacks headers (sort_in x) (λ s. Done (is_integer s)) d e))

  pub shift-found : outcome_by_first left x y (run headers (sort_in x)) (run headers (sort_in y)) ≡ tested headers (shift_tests left x y) (shift_gives left x y)
  shift-found = sym (by_first (run headers (sort_in x)) refl)
