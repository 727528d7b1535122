-- Outcomes in a list and outcomes that a walker keeps, whose types are a judge's own.
use Rattle.std.proofs.Common.{◌≡◌, ℕ, Bool, true, false, Option, Some, None, List, [], ◌∷◌, ◌++◌, map, reverse, refl, sym, ap, ◌∙◌, subst}
use Rattle.std.specs.Prelude.{◌==◌, IfSome, if◌then◌else◌}
use Rattle.std.specs.List.{AllByRecursion}
use Rattle.std.specs.Option.{option_map}
use Rattle.std.proofs.lemmas.List.{reverse-append}
use Rattle.go_term.specs.Types.{TypeData}
use Rattle.go_term.specs.declared.term.Term.{Term}
use Rattle.go_judge.specs.declared.outcome.Outcome.{Outcome}
use Rattle.go_judge.specs.View.{outcome_as}
use Rattle.go_judge.specs.Types.Own.{IsOwnOutcome, KeepsTypes}
use Rattle.go_judge.proofs.EntryLemmas.{chosen}
use Rattle.go_judge.proofs.OwnDataLemmas.{outcome_agrees, outcome_stays_own}
use Rattle.go_expr.specs.declared.walker.Walker.{Walker}
use Rattle.go_expr.specs.Walker.{AreOwnOutcomes, outcome_in, outcomes_as}

-- over types that stay
module _ (own own' : Term → Type 0) (tree tree' : Term → TypeData) (keeps : KeepsTypes own own' tree tree') where
  some_agree : (o : Option Outcome) → IfSome o (IsOwnOutcome own) → option_map (outcome_as tree') o ≡ option_map (outcome_as tree) o
  some_agree None is = refl
  some_agree (Some o) is = ap Some (outcome_agrees own tree tree' keeps.trees o is)

  pub outcomes_agree : (walker : Walker) → AreOwnOutcomes own walker → outcomes_as tree' walker ≡ outcomes_as tree walker
  outcomes_agree walker are = λ i n. some_agree (outcome_in walker n) (are n) i

  some_stay : (o : Option Outcome) → IfSome o (IsOwnOutcome own) → IfSome o (IsOwnOutcome own')
  some_stay None is = tt
  some_stay (Some o) is = outcome_stays_own own own' keeps.types o is

  pub outcomes_stay_own : (walker : Walker) → AreOwnOutcomes own walker → AreOwnOutcomes own' walker
  outcomes_stay_own walker are n = some_stay (outcome_in walker n) (are n)

  pub list_agrees : (os : List Outcome) → AllByRecursion (IsOwnOutcome own) os → map (outcome_as tree') os ≡ map (outcome_as tree) os
  list_agrees [] are = refl
  list_agrees (o ∷ os) are = λ i. outcome_agrees own tree tree' keeps.trees o are.0 i ∷ list_agrees os are.1 i

  pub list_stays_own : (os : List Outcome) → AllByRecursion (IsOwnOutcome own) os → AllByRecursion (IsOwnOutcome own') os
  list_stays_own [] are = tt
  list_stays_own (o ∷ os) are = (outcome_stays_own own own' keeps.types o are.0, list_stays_own os are.1)

-- behind one more entry
module _ (old new : Walker) (id : ℕ) (made : Outcome) (entered : (n : ℕ) → outcome_in new n ≡ (if id == n then Some made else outcome_in old n)) where
  pub outcomes_entered : (tree : Term → TypeData) (n : ℕ) → outcomes_as tree new n ≡ (if id == n then Some (outcome_as tree made) else outcomes_as tree old n)
  outcomes_entered tree n = ap (option_map (outcome_as tree)) (entered n) ∙ chosen (outcome_as tree) (id == n) made (outcome_in old n)

  some_own : (own : Term → Type 0) (b : Bool) (rest : Option Outcome) → IsOwnOutcome own made → IfSome rest (IsOwnOutcome own) → IfSome (if b then Some made else rest) (IsOwnOutcome own)
  some_own own true rest is others = is
  some_own own false rest is others = others

  pub own_entered : (own : Term → Type 0) → IsOwnOutcome own made → AreOwnOutcomes own old → AreOwnOutcomes own new
  own_entered own is are n = subst (λ (o : Option Outcome). IfSome o (IsOwnOutcome own)) (sym (entered n)) (some_own own (id == n) (outcome_in old n) is (are n))

-- what holds of each item of two lists, of a list in reverse, and of the only item or the two of a list
module _ {X : Type 0} (P : X → Type 0) where
  pub all-append : (xs ys : List X) → AllByRecursion P xs → AllByRecursion P ys → AllByRecursion P (xs ++ ys)
  all-append [] ys are others = others
  all-append (x ∷ xs) ys are others = (are.0, all-append xs ys are.1 others)

  pub all-reverse : (xs : List X) → AllByRecursion P xs → AllByRecursion P (reverse xs)
  all-reverse [] are = tt
  all-reverse (x ∷ xs) are =
      subst (AllByRecursion P) (sym (reverse-append (x ∷ []) xs)) (all-append (reverse xs) (x ∷ []) (all-reverse xs are.1) (are.0, tt))
