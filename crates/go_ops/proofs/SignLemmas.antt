-- What the tests of `+x`, `-x`, `^x` and `!x` come to, by the sort of the operand.
use Rattle.std.proofs.Common.{◌≡◌, refl, ap, sym, ◌∙◌}
use Rattle.go_judge.specs.Judged.{tested}
use Rattle.go_judge.specs.Operands.{type_or_none}
use Rattle.go_judge.specs.Records.{RecData}
use Rattle.go_judge.specs.Headers.{Headers}
use Rattle.go_judge.specs.Quests.{Asked, Decided, Done, Lacks, run}
use Rattle.go_judge.proofs.QuestLemmas.{run-then, run-then-Lacks}
use Rattle.go_constructs.specs.Operators.Constants.{constant_in, limit_tests, record_of}
use Rattle.go_ops.specs.Refusals.{by_whole}
use Rattle.go_constructs.specs.Operators.Rules.{undefined_unary}
use Rattle.go_ops.specs.Signed.{defined_outcome, fit_of_one, outcome_by_operand, sign_gives, sign_tests, value_of_one}
use Rattle.go_constructs.specs.Operators.Sorts.{by_sort, sort_in}
use Rattle.go_constructs.specs.Operators.Unary.{is_signed_by, sign_fit}
use Rattle.go_constructs.specs.declared.operator.Sign.{Sign}
use Rattle.go_constructs.specs.declared.sort.Sort.{Sort}
use Rattle.go_ops.proofs.EndLemmas.{whole-by, whole-lacks}
use Rattle.go_ops.proofs.LimitLemmas.{tests-limited}

module _ (headers : Headers) (op : Sign) (x : RecData) where
  module _ (s : Sort) (decided : run headers (sort_in x) ≡ Decided s) where
    told : {A : Type 0} (answer : Sort → A) → run headers (by_sort x answer) ≡ Decided (answer s)
    told answer = run-then headers (sort_in x) (λ s. Done (answer s)) s decided

    defined : tested headers (limit_tests (sign_fit op x)) (sign_gives op x) ≡ defined_outcome op x s
    defined =
        tests-limited headers (sign_fit op x) (sign_gives op x) (fit_of_one op s (constant_in x))
        (record_of (type_or_none x) (value_of_one op s (constant_in x)) x.span)
        (told (λ s. fit_of_one op s (constant_in x)))
        (told (λ s. record_of (type_or_none x) (value_of_one op s (constant_in x)) x.span))

    by_decided : tested headers (sign_tests op x) (sign_gives op x) ≡ by_whole undefined_unary (is_signed_by op s) (defined_outcome op x s)
    by_decided =
        whole-by headers undefined_unary (by_sort x (is_signed_by op)) (limit_tests (sign_fit op x)) (sign_gives op x) (is_signed_by op s) (told (is_signed_by op))
        ∙ ap (by_whole undefined_unary (is_signed_by op s)) defined

  by_answer : (a : Asked Sort) → run headers (sort_in x) ≡ a → tested headers (sign_tests op x) (sign_gives op x) ≡ outcome_by_operand op x a
  by_answer (Decided s) e = by_decided s e
  by_answer (Lacks d) e =
      whole-lacks headers undefined_unary (by_sort x (is_signed_by op)) (limit_tests (sign_fit op x)) (sign_gives op x) d
      (run-then-Lacks headers (sort_in x) (λ s. Done (is_signed_by op s)) d e)

  pub sign-found : outcome_by_operand op x (run headers (sort_in x)) ≡ tested headers (sign_tests op x) (sign_gives op x)
  sign-found = sym (by_answer (run headers (sort_in x)) refl)
