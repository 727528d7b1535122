-- Unions: where the terms of a set lie in the unions of a second, and the terms of that in the unions of a third, those of the
-- first lie in the unions of the third.
use Rattle.std.proofs.Common.{◌≡◌, ℕ, ◌+◌, Bool, true, false, List, [], ◌∷◌, ◌⊎◌, inl, inr, refl, sym, ◌∙◌, arith}
use Rattle.std.specs.List.{AllByRecursion, flat_map}
use Rattle.go_judge.specs.Headers.{Headers}
use Rattle.go_judge.specs.Types.SetsFit.{is_all, is_all_by}
use Rattle.go_judge.specs.Types.TypeIdentity.{Test, ask_any, ask_each, implied, lies_in, lies_within, terms_lie}
use Rattle.go_judge.specs.Types.TypeSets.{SetData, TermData}
use Rattle.go_same_laws.proofs.EveryLemmas.{every_of_flat, every_so, every_to_flat, every_with}
use Rattle.go_same_laws.proofs.FitLemmas.{no_terms}
use Rattle.go_same_laws.proofs.OrderLemmas.{Asking, lies_in_carries}
use Rattle.go_same_laws.proofs.TermLemmas.{Level, beside, within_on}
use Rattle.go_same_laws.proofs.TotalLemmas.{IsTotal, SomeOf, implied_yes, some_so, some_with, some_yes, yes_implied, yes_some}
use Rattle.go_same_laws.proofs.WithinLemmas.{AreWithin, IsWithin}
use Rattle.go_same_laws.proofs.YesLemmas.{IsYes, each_yes, yes_each}

-- A TERM OF SOME UNION

module _ (P C : TermData → Type 0) where
  -- a term without `~`
  record Bare : Type 0 where
    it : TermData
    is : P it
    holds : C it
    bare : it.tilde ≡ false

  abbrev WithTilde : TermData → Type 0
  WithTilde y = P y × (y.tilde ≡ true)

  choose_in : (u : List TermData) → AllByRecursion C u → SomeOf P u → Bare ⊎ SomeOf WithTilde u
  choose_in [] all some = absurd some
  choose_in (y ∷ ys) all (inl here) = at y.tilde refl
    where
      at : (b : Bool) → y.tilde ≡ b → Bare ⊎ SomeOf WithTilde (y ∷ ys)
      at true e = inr (inl (here, e))
      at false e = inl (record { it = y; is = here; holds = all.0; bare = e })
  choose_in (y ∷ ys) all (inr there) = elim (choose_in ys all.1 there) as (λ _. Bare ⊎ SomeOf WithTilde (y ∷ ys)) [ inl bare ↦ inl bare | inr some ↦ inr (inr some) ]

  -- of some term in each union one has no `~`, or each has one
  choose : (us : List (List TermData)) → AllByRecursion (λ u. AllByRecursion C u) us → AllByRecursion (SomeOf P) us → Bare ⊎ AllByRecursion (SomeOf WithTilde) us
  choose [] all some = inr tt
  choose (u ∷ us) all some = at (choose_in u all.0 some.0) (choose us all.1 some.1)
    where
      at : Bare ⊎ SomeOf WithTilde u → Bare ⊎ AllByRecursion (SomeOf WithTilde) us → Bare ⊎ AllByRecursion (SomeOf WithTilde) (u ∷ us)
      at (inl bare) rest = inl bare
      at (inr here) (inl bare) = inl bare
      at (inr here) (inr there) = inr (here, there)

  first_of_some : (us : List (List TermData)) → is_all_by us ≡ false → AllByRecursion (λ u. AllByRecursion C u) us → AllByRecursion (SomeOf P) us → (y : TermData) × (P y × C y)
  first_of_some [] e all some = absurd (let wrong : true ≡ false = e in cc wrong)
  first_of_some (u ∷ us) e all some = some_with P C u all.0 some.0

module _ (headers : Headers) (total : IsTotal headers) (go : Asking) (level : Level headers go) where
  abbrev Lies : Bool → ℕ → TermData → TermData → Type 0
  Lies short n x y = IsYes headers (lies_within go n short x y)

  abbrev LiesIn : Bool → ℕ → List (List TermData) → TermData → Type 0
  LiesIn short n unions x = IsYes headers (lies_in go n short unions x)

  some_in : (short : Bool) (n : ℕ) (unions : List (List TermData)) (x : TermData) → LiesIn short n unions x → AllByRecursion (SomeOf (Lies short n x)) unions
  some_in short n unions x told =
      every_so (λ u. IsYes headers (ask_any (lies_within go n short x) u)) (SomeOf (Lies short n x)) (yes_some headers (lies_within go n short x)) unions
      (each_yes headers (ask_any (lies_within go n short x)) unions told)

  -- in each union a term lies where of some term another holds
  in_some : (short : Bool) (n : ℕ) (x : TermData) (P C : TermData → Type 0) → ((y : TermData) → P y → C y → Lies short n x y)
      → (unions : List (List TermData)) → AllByRecursion (λ u. AllByRecursion C u) unions → AllByRecursion (SomeOf P) unions → LiesIn short n unions x
  in_some short n x P C so unions all some =
      yes_each headers (ask_any (lies_within go n short x)) unions
      (every_so (λ u. AllByRecursion C u × SomeOf P u) (λ u. IsYes headers (ask_any (lies_within go n short x) u))
      (λ u here. some_yes headers total (lies_within go n short x) u (some_so P C (Lies short n x) so u here.0 here.1))
      unions (every_with (λ u. AllByRecursion C u) (SomeOf P) unions all some))

  module _ (p q : ℕ) (ss ts us : List (List TermData)) (within_s : AreWithin p ss) (within_t : AreWithin p ts) (within_u : AreWithin q us) where
    abbrev flat : List (List TermData) → List TermData
    flat unions = flat_map (λ (u : List TermData). u) unions

    abbrev each_test : ℕ → List (List TermData) → List (List TermData) → TermData → Test
    each_test n from to a = implied (lies_in go n true from a) (lies_in go n false to a)

    -- what is known of a term of the second set
    abbrev Known : TermData → Type 0
    Known y = IsWithin p y × IsYes headers (each_test q ts us y)

    -- a term that lies within one of the second set which lies in all unions of that
    through : (x y : TermData) → IsWithin p x → Lies false p x y → Known y → LiesIn true q ts y → LiesIn false (p + q) us x
    through x y within here known premise =
        in_some false (p + q) x (Lies false q y) (IsWithin q)
        (λ z there far. within_on headers total go level p q x.opened y.opened z.opened within.1 far.1 x.type y.type z.type within.0 known.0.0 far.0 x.tilde y.tilde z.tilde here there)
        us within_u (some_in false q us y (yes_implied headers (lies_in go q true ts y) (lies_in go q false us y) known.1 premise))

    -- where a term lies within one of the second set and within others, the one lies in their unions as far as a premise tells
    around : (x y : TermData) → IsWithin p x → Lies false p x y → Known y → (P : TermData → Type 0) → ((z : TermData) → P z → Lies false p x z) → ((z : TermData) → P z → y.tilde ≡ true → z.tilde ≡ true)
        → AllByRecursion (λ u. AllByRecursion Known u) ts → AllByRecursion (SomeOf P) ts → LiesIn true q ts y
    around x y within here known P lies tilde =
        in_some true q y P Known (λ z there far.
        beside headers total go level p (x.opened + y.opened) (x.opened + z.opened) q (y.opened + z.opened) x.type y.type z.type within.0 known.0.0 far.0.0 x.tilde y.tilde z.tilde (tilde z there) here (lies z there)) ts

    one_on : is_all_by ts ≡ false → AllByRecursion (λ u. AllByRecursion Known u) ts → (x : TermData) → IsWithin p x → IsYes headers (each_test p ss ts x) → LiesIn true (p + q) ss x → LiesIn false (p + q) us x
    one_on some known x within told premise = at (choose (Lies false p x) Known ts known there)
      where
        fewer : LiesIn true p ss x
        fewer = lies_in_carries headers total true true go go level.tells level.fewer (p + q) p (omega arith) ss x premise

        there : AllByRecursion (SomeOf (Lies false p x)) ts
        there = some_in false p ts x (yes_implied headers (lies_in go p true ss x) (lies_in go p false ts x) told fewer)

        tilded : AllByRecursion (SomeOf (WithTilde (Lies false p x) Known)) ts → LiesIn false (p + q) us x
        tilded all =
            let P : TermData → Type 0 = WithTilde (Lies false p x) Known in
            let first = first_of_some P Known ts some known all in
            through x first.0 within first.1.0.0 first.1.1 (around x first.0 within first.1.0.0 first.1.1 P (λ z lies. lies.0) (λ z lies is. lies.1) known all)

        at : Bare (Lies false p x) Known ⊎ AllByRecursion (SomeOf (WithTilde (Lies false p x) Known)) ts → LiesIn false (p + q) us x
        at (inl y) =
            through x y.it within y.is y.holds
            (around x y.it within y.is y.holds (Lies false p x) (λ z lies. lies) (λ z lies is. absurd (let wrong : false ≡ true = sym y.bare ∙ is in cc wrong)) known there)
        at (inr all) = tilded all

    terms_on : is_all_by ss ≡ is_all_by ts → IsYes headers (ask_each (each_test p ss ts) (flat ss)) → IsYes headers (ask_each (each_test q ts us) (flat ts)) → IsYes headers (ask_each (each_test (p + q) ss us) (flat ss))
    terms_on same told after = at (is_all_by ss) refl
      where
        known : AllByRecursion (λ u. AllByRecursion Known u) ts
        known =
            every_of_flat Known (λ u. u) ts
            (every_with (IsWithin p) (λ y. IsYes headers (each_test q ts us y)) (flat ts) (every_to_flat (IsWithin p) (λ u. u) ts within_t) (each_yes headers (each_test q ts us) (flat ts) after))

        at : (b : Bool) → is_all_by ss ≡ b → IsYes headers (ask_each (each_test (p + q) ss us) (flat ss))
        at true e = no_terms headers (each_test (p + q) ss us) ss e
        at false e =
            yes_each headers (each_test (p + q) ss us) (flat ss)
            (every_so (λ x. IsWithin p x × IsYes headers (each_test p ss ts x)) (λ x. IsYes headers (each_test (p + q) ss us x))
            (λ x here. implied_yes headers total (lies_in go (p + q) true ss x) (lies_in go (p + q) false us x) (one_on (sym same ∙ e) known x here.0 here.1))
            (flat ss)
            (every_with (IsWithin p) (λ x. IsYes headers (each_test p ss ts x)) (flat ss) (every_to_flat (IsWithin p) (λ u. u) ss within_s) (each_yes headers (each_test p ss ts) (flat ss) told)))

  pub unions_on : (p q : ℕ) (s t u : SetData) → AreWithin p s.unions → AreWithin p t.unions → AreWithin q u.unions → is_all s ≡ is_all t
      → IsYes headers (terms_lie go p false s t) → IsYes headers (terms_lie go q false t u) → IsYes headers (terms_lie go (p + q) false s u)
  unions_on p q s t u = terms_on p q s.unions t.unions u.unions
