-- How a node ends by the first of its tests: what is asked at the node as a whole, at one operand, and at two.
use Rattle.std.proofs.Common.{◌≡◌, ℕ, Bool, true, false, Option, None, List, [], ◌∷◌, ◌++◌, refl, sym, ap, ◌∙◌}
use Rattle.go_base.specs.declared.rule.Rule.{Rule}
use Rattle.go_judge.specs.declared.outcome.Spot.{Spot}
use Rattle.go_judge.specs.declared.outcome.Spot.TheVariants.{Part, Whole}
use Rattle.go_judge.specs.Kinds.{no_value}
use Rattle.go_judge.specs.Judged.{OutcomeData, Broken, RuleTest, Waits, lack_or, rule_end, ruled, spot_if_no, tested}
use Rattle.go_judge.specs.Operands.{are_values, at_whole, is_value}
use Rattle.go_judge.specs.Records.{HeaderData, RecData}
use Rattle.go_judge.specs.Headers.{Headers}
use Rattle.go_judge.specs.Quests.{Asked, Decided, Done, Lacks, Quest, run}
use Rattle.go_constructs.specs.Operators.Matching.{are_single, is_single_type}
use Rattle.go_ops.specs.Refusals.{by_part, by_two, by_whole, one_refused, or_later, refused_one, refused_two, several_refused, two_refused}
use Rattle.go_constructs.specs.Operators.Rules.{several_values}

-- AT ONE PLACE

-- what is asked there comes to that, and the later tests to this
abbrev end_at : {R : Type 0} → Rule → Spot → OutcomeData R → Asked Bool → OutcomeData R
end_at rule spot later answer = ruled rule (rule_end (spot_if_no spot answer ++ []) (lack_or answer None)) later

decided_at : {R : Type 0} (rule : Rule) (spot : Spot) (later : OutcomeData R) (b : Bool) → end_at rule spot later (Decided b) ≡ by_part rule spot b later
decided_at rule spot later true = refl
decided_at rule spot later false = refl

whole_is : {R : Type 0} (rule : Rule) (later : OutcomeData R) (b : Bool) → by_part rule Whole b later ≡ by_whole rule b later
whole_is rule later true = refl
whole_is rule later false = refl

module _ {H R : Type 0} (headers : ℕ → Option H) (rule : Rule) (q : Quest H Bool) (ts : List (RuleTest H)) (gives : Quest H R) where
  -- at the node as a whole
  pub whole-by : (b : Bool) → run headers q ≡ Decided b → tested headers (at_whole rule q ∷ ts) gives ≡ by_whole rule b (tested headers ts gives)
  whole-by b is = ap (end_at rule Whole (tested headers ts gives)) is ∙ decided_at rule Whole (tested headers ts gives) b ∙ whole_is rule (tested headers ts gives) b

  pub whole-yes : run headers q ≡ Decided true → tested headers (at_whole rule q ∷ ts) gives ≡ tested headers ts gives
  whole-yes is = whole-by true is

  pub whole-no : run headers q ≡ Decided false → tested headers (at_whole rule q ∷ ts) gives ≡ Broken rule (Whole ∷ [])
  whole-no is = whole-by false is

  pub whole-lacks : (d : ℕ) → run headers q ≡ Lacks d → tested headers (at_whole rule q ∷ ts) gives ≡ Waits d
  whole-lacks d is = ap (end_at rule Whole (tested headers ts gives)) is

  -- at one place
  pub part-by : (spot : Spot) (b : Bool) → run headers q ≡ Decided b
      → tested headers (record { rule = rule; spots = record { spot = spot; holds = q } ∷ [] } ∷ ts) gives ≡ by_part rule spot b (tested headers ts gives)
  part-by spot b is = ap (end_at rule spot (tested headers ts gives)) is ∙ decided_at rule spot (tested headers ts gives) b

  pub part-yes : (spot : Spot) → run headers q ≡ Decided true
      → tested headers (record { rule = rule; spots = record { spot = spot; holds = q } ∷ [] } ∷ ts) gives ≡ tested headers ts gives
  part-yes spot is = part-by spot true is

  pub part-no : (spot : Spot) → run headers q ≡ Decided false
      → tested headers (record { rule = rule; spots = record { spot = spot; holds = q } ∷ [] } ∷ ts) gives ≡ Broken rule (spot ∷ [])
  part-no spot is = part-by spot false is

  pub part-lacks : (spot : Spot) (d : ℕ) → run headers q ≡ Lacks d
      → tested headers (record { rule = rule; spots = record { spot = spot; holds = q } ∷ [] } ∷ ts) gives ≡ Waits d
  part-lacks spot d is = ap (end_at rule spot (tested headers ts gives)) is

-- AT TWO OPERANDS

abbrev end_at_two : {R : Type 0} → Rule → OutcomeData R → Asked Bool → Asked Bool → OutcomeData R
end_at_two rule later first second =
    ruled rule (rule_end (spot_if_no (Part 0) first ++ (spot_if_no (Part 1) second ++ [])) (lack_or first (lack_or second None))) later

decided_at_two : {R : Type 0} (rule : Rule) (later : OutcomeData R) (a b : Bool) → end_at_two rule later (Decided a) (Decided b) ≡ by_two rule a b later
decided_at_two rule later true true = refl
decided_at_two rule later true false = refl
decided_at_two rule later false true = refl
decided_at_two rule later false false = refl

module _ {H R : Type 0} (headers : ℕ → Option H) (rule : Rule) (p q : Quest H Bool) (ts : List (RuleTest H)) (gives : Quest H R) where
  abbrev of_both : OutcomeData R
  of_both = tested headers (record { rule = rule; spots = record { spot = Part 0; holds = p } ∷ (record { spot = Part 1; holds = q } ∷ []) } ∷ ts) gives

  pub two-by : (a b : Bool) → run headers p ≡ Decided a → run headers q ≡ Decided b → of_both ≡ by_two rule a b (tested headers ts gives)
  two-by a b first second =
      (λ i. end_at_two rule (tested headers ts gives) (first i) (second i)) ∙ decided_at_two rule (tested headers ts gives) a b

  pub two-lack : (d e : ℕ) → run headers p ≡ Lacks d → run headers q ≡ Lacks e → of_both ≡ Waits d
  two-lack d e first second = λ i. end_at_two rule (tested headers ts gives) (first i) (second i)

-- R1 AND R2

one_by : (later : OutcomeData RecData) (a b : Bool) → by_part no_value (Part 0) a (by_part several_values (Part 0) b later) ≡ or_later (refused_one a b) later
one_by later true true = refl
one_by later true false = refl
one_by later false b = refl

several_by : (later : OutcomeData RecData) (a b : Bool) → by_two several_values a b later ≡ or_later (several_refused a b) later
several_by later true true = refl
several_by later true false = refl
several_by later false true = refl
several_by later false false = refl

two_by : (later : OutcomeData RecData) (a b : Bool) (several : Option (OutcomeData RecData)) → by_two no_value a b (or_later several later) ≡ or_later (refused_two a b several) later
two_by later true true several = refl
two_by later true false several = refl
two_by later false true several = refl
two_by later false false several = refl

module _ (headers : Headers) (ts : List (RuleTest HeaderData)) (gives : Quest HeaderData RecData) where
  abbrev later : OutcomeData RecData
  later = tested headers ts gives

  -- of one operand
  pub one-refused : (x : RecData) → or_later (one_refused x) (tested headers ts gives) ≡ tested headers (are_values 0 (x ∷ []) ∷ (are_single (x ∷ []) ∷ ts)) gives
  one-refused x =
      let a = is_value x in
      let b = is_single_type x.type in
      sym (part-by headers no_value (Done a) (are_single (x ∷ []) ∷ ts) gives (Part 0) a refl
      ∙ ap (by_part no_value (Part 0) a) (part-by headers several_values (Done b) ts gives (Part 0) b refl)
      ∙ one_by later a b)

  -- of two
  pub two-refused : (x y : RecData) → or_later (two_refused x y) (tested headers ts gives) ≡ tested headers (are_values 0 (x ∷ (y ∷ [])) ∷ (are_single (x ∷ (y ∷ [])) ∷ ts)) gives
  two-refused x y =
      let a = is_value x in
      let b = is_value y in
      let c = is_single_type x.type in
      let d = is_single_type y.type in
      sym (two-by headers no_value (Done a) (Done b) (are_single (x ∷ (y ∷ [])) ∷ ts) gives a b refl refl
      ∙ ap (by_two no_value a b) (two-by headers several_values (Done c) (Done d) ts gives c d refl refl ∙ several_by later c d)
      ∙ two_by later a b (several_refused c d))
