-- What tests on the sorts of two operands come to, where these are decided.
use Rattle.std.proofs.Common.{◌≡◌, ℕ, Bool, true, false, Option, None, List, [], ◌∷◌, ◌++◌, refl, ap, ◌∙◌}
use Rattle.go_base.specs.declared.rule.Rule.{Rule}
use Rattle.go_judge.specs.declared.outcome.Spot.TheVariants.{Whole}
use Rattle.go_judge.specs.Judged.{OutcomeData, RuleTest, lack_or, rule_end, ruled, spot_if_no, tested}
use Rattle.go_judge.specs.Operands.{at_whole}
use Rattle.go_judge.specs.Records.{HeaderData, RecData}
use Rattle.go_judge.specs.Headers.{Headers}
use Rattle.go_judge.specs.Quests.{Asked, Decided, Done, Lacks, Quest, run, then_ask}
use Rattle.go_judge.proofs.QuestLemmas.{run-then}
use Rattle.go_constructs.specs.Operators.Matching.{are_matched, given, given_fit, match_by}
use Rattle.go_ops.specs.Refusals.{by_two, by_whole}
use Rattle.go_constructs.specs.Operators.Rules.{mismatched_operands}
use Rattle.go_constructs.specs.Operators.Sorts.{by_sorts, sort_in, sorts_of}
use Rattle.go_ops.specs.Stages.{by_answer}
use Rattle.go_constructs.specs.declared.fit.Fit.{Fit}
use Rattle.go_constructs.specs.declared.sort.Sort.{Sort}
use Rattle.go_ops.proofs.EndLemmas.{two-by}

answer_at : {R : Type 0} (rule : Rule) (later : OutcomeData R) (a : Asked Bool) → ruled rule (rule_end (spot_if_no Whole a ++ []) (lack_or a None)) later ≡ by_answer rule a later
answer_at rule later (Decided true) = refl
answer_at rule later (Decided false) = refl
answer_at rule later (Lacks d) = refl

-- a rule that is asked of the node as a whole, by what its question comes to
pub whole-answer : {H R : Type 0} (headers : ℕ → Option H) (rule : Rule) (q : Quest H Bool) (ts : List (RuleTest H)) (gives : Quest H R) (a : Asked Bool)
    → run headers q ≡ a → tested headers (at_whole rule q ∷ ts) gives ≡ by_answer rule a (tested headers ts gives)
whole-answer headers rule q ts gives a is =
    ap (λ b. ruled rule (rule_end (spot_if_no Whole b ++ []) (lack_or b None)) (tested headers ts gives)) is ∙ answer_at rule (tested headers ts gives) a

-- what comes later counts where the rule holds alone
pub where-holds : {R : Type 0} (rule : Rule) (b : Bool) (k l : OutcomeData R) → (b ≡ true → k ≡ l) → by_whole rule b k ≡ by_whole rule b l
where-holds rule true k l same = same refl
where-holds rule false k l same = refl

module _ (headers : Headers) (x y : RecData) (s t : Sort) where
  pub both-decided : run headers (sort_in x) ≡ Decided s → run headers (sort_in y) ≡ Decided t → run headers (sorts_of x y) ≡ Decided (s, t)
  both-decided first second =
      run-then headers (sort_in x) (λ u. then_ask (sort_in y) (λ v. Done (u, v))) s first ∙ run-then headers (sort_in y) (λ v. Done (s, v)) t second

module _ (headers : Headers) (x y : RecData) (s t : Sort) (decided : run headers (sorts_of x y) ≡ Decided (s, t)) where
  pub sorts-told : {A : Type 0} (answer : Sort → Sort → A) → run headers (by_sorts x y answer) ≡ Decided (answer s t)
  sorts-told answer = run-then headers (sorts_of x y) (λ pair. Done (answer pair.0 pair.1)) (s, t) decided

  module _ (ts : List (RuleTest HeaderData)) (gives : Quest HeaderData RecData) where
    -- R4
    pub matched-by : tested headers (are_matched x y ∷ ts) gives ≡ by_answer mismatched_operands (run headers (match_by x y s t)) (tested headers ts gives)
    matched-by =
        whole-answer headers mismatched_operands (then_ask (sorts_of x y) (λ pair. match_by x y pair.0 pair.1)) ts gives (run headers (match_by x y s t))
        (run-then headers (sorts_of x y) (λ pair. match_by x y pair.0 pair.1) (s, t) decided)

    -- a rule at the constants that are given a type
    pub given-by : (rule : Rule) (holds : Fit → Bool)
        → tested headers (given rule holds x y ∷ ts) gives ≡ by_two rule (holds (given_fit x s t)) (holds (given_fit y t s)) (tested headers ts gives)
    given-by rule holds =
        two-by headers rule (by_sorts x y (λ s t. holds (given_fit x s t))) (by_sorts x y (λ s t. holds (given_fit y t s))) ts gives
        (holds (given_fit x s t)) (holds (given_fit y t s)) (sorts-told (λ s t. holds (given_fit x s t))) (sorts-told (λ s t. holds (given_fit y t s)))
