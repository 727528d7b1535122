-- Questions over headers of which none is lacking: each is decided, so that a test is Yes where it follows from others. Of some
-- element of a list a test is Yes.
use Rattle.std.proofs.Common.{◌≡◌, ℕ, Bool, true, false, if◌then◌else◌, Some, List, [], ◌∷◌, ◌⊎◌, inl, inr, refl, sym, ap, ◌∙◌}
use Rattle.std.specs.List.{AllByRecursion}
use Rattle.go_judge.specs.Records.{HeaderData}
use Rattle.go_judge.specs.Headers.{Headers}
use Rattle.go_judge.specs.Types.TypeIdentity.{Test, ask_any, implied, or_ask}
use Rattle.go_judge.specs.Quests.{Decided, Quest, Done, Need, run, then_ask}
use Rattle.go_judge.proofs.QuestLemmas.{run-Some}
use Rattle.go_same_laws.proofs.YesLemmas.{IsYes, after, hence, not_no, run-then, thence}

-- SOME ELEMENT

abbrev pub SomeOf : {X : Type 0} → (X → Type 0) → List X → Type 0
SomeOf P [] = ⊥
SomeOf P (x ∷ xs) = P x ⊎ SomeOf P xs

-- an element, with what holds of it and what holds of each
pub some_with : {X : Type 0} (P Q : X → Type 0) (xs : List X) → AllByRecursion Q xs → SomeOf P xs → (x : X) × (P x × Q x)
some_with P Q [] all some = absurd some
some_with P Q (x ∷ xs) all (inl here) = (x, (here, all.0))
some_with P Q (x ∷ xs) all (inr there) = some_with P Q xs all.1 there

pub some_so : {X : Type 0} (P Q R : X → Type 0) → ((x : X) → P x → Q x → R x) → (xs : List X) → AllByRecursion Q xs → SomeOf P xs → SomeOf R xs
some_so P Q R so [] all some = some
some_so P Q R so (x ∷ xs) all (inl here) = inl (so x here all.0)
some_so P Q R so (x ∷ xs) all (inr there) = inr (some_so P Q R so xs all.1 there)

pub some_map : {X : Type 0} (P R : X → Type 0) → ((x : X) → P x → R x) → (xs : List X) → SomeOf P xs → SomeOf R xs
some_map P R so [] some = some
some_map P R so (x ∷ xs) (inl here) = inl (so x here)
some_map P R so (x ∷ xs) (inr there) = inr (some_map P R so xs there)

module _ (headers : Headers) where
  -- where the first question is decided
  pub then_is : {A B : Type 0} (q : Quest HeaderData A) (next : A → Quest HeaderData B) (a : A) → run headers q ≡ Decided a → run headers (then_ask q next) ≡ run headers (next a)
  then_is q next a e = run-then headers q next ∙ ap (λ x. after x (λ b. run headers (next b))) e

  pub yes_implied : (a b : Test) → IsYes headers (implied a b) → IsYes headers a → IsYes headers b
  yes_implied a b told first = sym (then_is a (λ so. if so then b else Done true) true first) ∙ told

  pub yes_some : {X : Type 0} (test : X → Test) (xs : List X) → IsYes headers (ask_any test xs) → SomeOf (λ x. IsYes headers (test x)) xs
  yes_some test [] told = absurd (not_no headers told)
  yes_some {X} test (x ∷ xs) told =
      let parts = thence headers (test x) (λ so. if so then Done true else ask_any test xs) true told in
      go parts.answer (yes_some test xs) parts.first parts.second
    where
      go : (r : Bool) → (IsYes headers (ask_any test xs) → SomeOf (λ (y : X). IsYes headers (test y)) xs) → run headers (test x) ≡ Decided r
          → IsYes headers (if r then Done true else ask_any test xs) → SomeOf (λ (y : X). IsYes headers (test y)) (x ∷ xs)
      go true rest first second = inl first
      go false rest first second = inr (rest second)

  abbrev pub IsTotal : Type 0
  IsTotal = (d : ℕ) → (h : HeaderData) × (headers d ≡ Some h)

  module _ (total : IsTotal) where
    pub decided : {A : Type 0} (q : Quest HeaderData A) → (a : A) × (run headers q ≡ Decided a)
    decided (Done a) = (a, refl)
    decided {A} (Need d next) =
        let rest : (h : HeaderData) → (a : A) × (run headers (next h) ≡ Decided a) = λ h. decided (next h) in
        let found = total d in
        let go = rest found.0 in
        (go.0, run-Some headers d next found.0 found.1 ∙ go.1)

    pub implied_yes : (a b : Test) → (IsYes headers a → IsYes headers b) → IsYes headers (implied a b)
    implied_yes a b so = let first = decided a in go first.0 first.1
      where
        go : (r : Bool) → run headers a ≡ Decided r → IsYes headers (implied a b)
        go true e = hence headers a (λ so. if so then b else Done true) true true e (so e)
        go false e = hence headers a (λ so. if so then b else Done true) false true e refl

    pub some_yes : {X : Type 0} (test : X → Test) (xs : List X) → SomeOf (λ x. IsYes headers (test x)) xs → IsYes headers (ask_any test xs)
    some_yes test [] some = absurd some
    some_yes test (x ∷ xs) (inl here) = hence headers (test x) (λ so. if so then Done true else ask_any test xs) true true here refl
    some_yes test (x ∷ xs) (inr there) = let first = decided (test x) in go first.0 (some_yes test xs there) first.1
      where
        go : (r : Bool) → IsYes headers (ask_any test xs) → run headers (test x) ≡ Decided r → IsYes headers (or_ask (test x) (ask_any test xs))
        go true rest e = hence headers (test x) (λ so. if so then Done true else ask_any test xs) true true e refl
        go false rest e = hence headers (test x) (λ so. if so then Done true else ask_any test xs) false true e rest
