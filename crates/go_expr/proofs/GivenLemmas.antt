-- What the operands of a node come to together, one after another.
use Rattle.std.proofs.Common.{◌≡◌, ℕ, zero, suc, ◌+◌, ◌<◌, ◌≤◌, List, [], ◌∷◌, ◌++◌, length, get_or, map, refl, sym, ap, ◌∙◌, arith}
use Rattle.std.proofs.lemmas.List.FromFn.{map-range_with_len_more}
use Rattle.go_term.specs.Types.{TypeData}
use Rattle.go_term.specs.declared.term.Term.{Term}
use Rattle.go_judge.specs.declared.outcome.Outcome.{Outcome}
use Rattle.go_judge.specs.Judged.{All, Broken, First, Found, Gone, Nothing, Operands, OutcomeData, Waits, joined, outcome_at, together}
use Rattle.go_judge.specs.Records.{RecData}
use Rattle.go_judge.specs.View.{outcome_as}
use Rattle.go_expr.specs.Given.{first_outcomes, with_one}

-- the outcome at a place that is there, and at one that is not
module _ (tree : Term → TypeData) where
  pub outcome_at-get : (xs : List Outcome) (n : ℕ) (o : Outcome) → n < length xs → ((d : Outcome) → o ≡ get_or xs n d) → outcome_at (map (outcome_as tree) xs) n ≡ outcome_as tree o
  outcome_at-get [] n o within is = absurd (omega (arith, within))
  outcome_at-get (x ∷ xs) zero o within is = ap (outcome_as tree) (sym (is x))
  outcome_at-get (x ∷ xs) (suc n) o within is = outcome_at-get xs n o (omega (arith, within)) is

  pub outcome_at-past : (xs : List Outcome) (n : ℕ) → length xs ≤ n → outcome_at (map (outcome_as tree) xs) n ≡ Nothing
  outcome_at-past [] n past = refl
  outcome_at-past (x ∷ xs) zero past = absurd (omega (arith, past))
  outcome_at-past (x ∷ xs) (suc n) past = outcome_at-past xs n (omega (arith, past))

pub with_one-Nothing : (rs : Operands RecData) → with_one rs Nothing ≡ Gone
with_one-Nothing (All rs) = refl
with_one-Nothing (First d) = refl
with_one-Nothing Gone = refl

joined-with_one : (y : OutcomeData RecData) (rs : Operands RecData) (x : OutcomeData RecData) → joined y (with_one rs x) ≡ with_one (joined y rs) x
joined-with_one (Found r) (All rs) (Found s) = refl
joined-with_one (Found r) (All rs) (Broken rule spots) = refl
joined-with_one (Found r) (All rs) (Waits d) = refl
joined-with_one (Found r) (All rs) Nothing = refl
joined-with_one (Found r) (First e) (Found s) = refl
joined-with_one (Found r) (First e) (Broken rule spots) = refl
joined-with_one (Found r) (First e) (Waits d) = refl
joined-with_one (Found r) (First e) Nothing = refl
joined-with_one (Found r) Gone x = refl
joined-with_one (Broken rule spots) rs x = refl
joined-with_one (Waits e) (All rs) (Found s) = refl
joined-with_one (Waits e) (All rs) (Broken rule spots) = refl
joined-with_one (Waits e) (All rs) (Waits d) = refl
joined-with_one (Waits e) (All rs) Nothing = refl
joined-with_one (Waits e) (First f) (Found s) = refl
joined-with_one (Waits e) (First f) (Broken rule spots) = refl
joined-with_one (Waits e) (First f) (Waits d) = refl
joined-with_one (Waits e) (First f) Nothing = refl
joined-with_one (Waits e) Gone x = refl
joined-with_one Nothing rs x = refl

first_one : (x : OutcomeData RecData) → together (x ∷ []) ≡ with_one (All []) x
first_one (Found r) = refl
first_one (Broken rule spots) = refl
first_one (Waits d) = refl
first_one Nothing = refl

pub together-push : (xs : List (OutcomeData RecData)) (x : OutcomeData RecData) → together (xs ++ x ∷ []) ≡ with_one (together xs) x
together-push [] x = first_one x
together-push (y ∷ ys) x = ap (joined y) (together-push ys x) ∙ joined-with_one y (together ys) x

-- one more of the first operands
pub together-more : (tree : Term → TypeData) (xs : List Outcome) (n : ℕ) → together (first_outcomes tree xs (n + 1)) ≡ with_one (together (first_outcomes tree xs n)) (outcome_at (map (outcome_as tree) xs) n)
together-more tree xs n =
    ap together (map-range_with_len_more (outcome_at (map (outcome_as tree) xs)) 0 n n (omega arith))
    ∙ together-push (first_outcomes tree xs n) (outcome_at (map (outcome_as tree) xs) n)
