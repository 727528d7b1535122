-- Tests one after another: what several come to, by what the first comes to.
use Rattle.std.proofs.Common.{◌≡◌, ℕ, ◌+◌, ◌<◌, Bool, true, false, if◌then◌else◌, List, [], ◌∷◌, ◌++◌, map, length, drop, get_or, refl, sym, ap, ◌∙◌}
use Rattle.std.proofs.lemmas.List.Concat.{flat_map-cons}
use Rattle.std.specs.List.{flat_map}
use Rattle.go_judge.specs.Headers.{Headers}
use Rattle.go_judge.specs.Types.Forms.{answer_as}
use Rattle.go_judge.specs.Types.TypeIdentity.{Test, and_ask, ask_any, ask_each, implied, or_ask}
use Rattle.go_judge.specs.Quests.{Asked, Decided, Lacks, Done, run}
use Rattle.go_judge.specs.declared.outcome.Answer.{Answer}
use Rattle.go_judge.specs.declared.outcome.Answer.TheVariants.{Yes, No, Unknown}
use Rattle.go_same.specs.Collect.{asked_then}
use Rattle.go_same.proofs.CollectLemmas.{run-then}
use Rattle.go_same.proofs.EitherLemmas.{left_map}

-- what two tests come to, one after the other
abbrev pub asked_and : Asked Bool → Asked Bool → Asked Bool
asked_and (Decided true) b = b
asked_and (Decided false) b = Decided false
asked_and (Lacks d) b = Lacks d

abbrev pub asked_or : Asked Bool → Asked Bool → Asked Bool
asked_or (Decided true) b = Decided true
asked_or (Decided false) b = b
asked_or (Lacks d) b = Lacks d

abbrev pub asked_implied : Asked Bool → Asked Bool → Asked Bool
asked_implied (Decided true) b = b
asked_implied (Decided false) b = Decided true
asked_implied (Lacks d) b = Lacks d

and-assoc : (a b c : Asked Bool) → asked_and a (asked_and b c) ≡ asked_and (asked_and a b) c
and-assoc (Decided true) b c = refl
and-assoc (Decided false) b c = refl
and-assoc (Lacks d) b c = refl

-- an answer that is not Yes ends what is asked of each, one that is not No what is asked of any
pub other-and : (a : Answer) (x b : Asked Bool) → answer_as a ≡ x → (a ≡ Yes → ⊥) → answer_as a ≡ asked_and x b
other-and Yes x b e not = absurd (not refl)
other-and No x b e not = ap (λ x. asked_and x b) e
other-and (Unknown d) x b e not = ap (λ x. asked_and x b) e

pub other-or : (a : Answer) (x b : Asked Bool) → answer_as a ≡ x → (a ≡ No → ⊥) → answer_as a ≡ asked_or x b
other-or Yes x b e not = ap (λ x. asked_or x b) e
other-or No x b e not = absurd (not refl)
other-or (Unknown d) x b e not = ap (λ x. asked_or x b) e

pub other-implied : (a : Answer) (x b : Asked Bool) → answer_as a ≡ x → (a ≡ Yes → ⊥) → (a ≡ No → ⊥) → answer_as a ≡ asked_implied x b
other-implied Yes x b e first second = absurd (first refl)
other-implied No x b e first second = absurd (second refl)
other-implied (Unknown d) x b e first second = ap (λ x. asked_implied x b) e

module _ (known : Headers) where
  pub run-and : (a b : Test) → run known (and_ask a b) ≡ asked_and (run known a) (run known b)
  run-and a b = run-then known a (λ yes. if yes then b else Done false) ∙ go (run known a)
    where
      go : (x : Asked Bool) → asked_then x (λ yes. run known (if yes then b else Done false)) ≡ asked_and x (run known b)
      go (Decided true) = refl
      go (Decided false) = refl
      go (Lacks d) = refl

  pub run-or : (a b : Test) → run known (or_ask a b) ≡ asked_or (run known a) (run known b)
  run-or a b = run-then known a (λ yes. if yes then Done true else b) ∙ go (run known a)
    where
      go : (x : Asked Bool) → asked_then x (λ yes. run known (if yes then Done true else b)) ≡ asked_or x (run known b)
      go (Decided true) = refl
      go (Decided false) = refl
      go (Lacks d) = refl

  pub run-implied : (a b : Test) → run known (implied a b) ≡ asked_implied (run known a) (run known b)
  run-implied a b = run-then known a (λ yes. if yes then b else Done true) ∙ go (run known a)
    where
      go : (x : Asked Bool) → asked_then x (λ yes. run known (if yes then b else Done true)) ≡ asked_implied x (run known b)
      go (Decided true) = refl
      go (Decided false) = refl
      go (Lacks d) = refl

  -- by what the first answers
  pub and-yes : (p q : Test) (a : Answer) → a ≡ Yes → answer_as a ≡ run known p → run known q ≡ run known (and_ask p q)
  and-yes p q a is e = ap (λ x. asked_and x (run known q)) (ap answer_as (sym is) ∙ e) ∙ sym (run-and p q)

  pub and-other : (p q : Test) (a : Answer) → (a ≡ Yes → ⊥) → answer_as a ≡ run known p → answer_as a ≡ run known (and_ask p q)
  and-other p q a not e = other-and a (run known p) (run known q) e not ∙ sym (run-and p q)

  pub implied-yes : (p q : Test) (a : Answer) → a ≡ Yes → answer_as a ≡ run known p → run known q ≡ run known (implied p q)
  implied-yes p q a is e = ap (λ x. asked_implied x (run known q)) (ap answer_as (sym is) ∙ e) ∙ sym (run-implied p q)

  pub implied-no : (p q : Test) (a : Answer) → a ≡ No → answer_as a ≡ run known p → Decided true ≡ run known (implied p q)
  implied-no p q a is e = ap (λ x. asked_implied x (run known q)) (ap answer_as (sym is) ∙ e) ∙ sym (run-implied p q)

  pub implied-other : (p q : Test) (a : Answer) → (a ≡ Yes → ⊥) → (a ≡ No → ⊥) → answer_as a ≡ run known p → answer_as a ≡ run known (implied p q)
  implied-other p q a not also e = other-implied a (run known p) (run known q) e not also ∙ sym (run-implied p q)

  -- of two lists, one behind the other
  each-append : {X : Type 0} (test : X → Test) (xs ys : List X) → run known (ask_each test (xs ++ ys)) ≡ asked_and (run known (ask_each test xs)) (run known (ask_each test ys))
  each-append test [] ys = refl
  each-append test (x ∷ xs) ys =
      run-and (test x) (ask_each test (xs ++ ys))
      ∙ ap (asked_and (run known (test x))) (each-append test xs ys)
      ∙ and-assoc (run known (test x)) (run known (ask_each test xs)) (run known (ask_each test ys))
      ∙ ap (λ a. asked_and a (run known (ask_each test ys))) (sym (run-and (test x) (ask_each test xs)))

  -- of the elements of lists
  pub each-flat : {X : Type 0} (test : X → Test) (u : List X) (us : List (List X))
      → run known (ask_each test (flat_map (λ u. u) (u ∷ us))) ≡ asked_and (run known (ask_each test u)) (run known (ask_each test (flat_map (λ u. u) us)))
  each-flat test u us = ap (λ xs. run known (ask_each test xs)) (flat_map-cons (λ u. u) u us) ∙ each-append test u (flat_map (λ u. u) us)

-- a loop that asks of each element of a list, or of any
module _ (known : Headers) {A X : Type 0} (xs : List A) (i : ℕ) (total : Asked Bool) (x : A) (lt : i < length xs) (at : x ≡ get_or xs i x) (a : Answer) where
  each-left : (test : X → Test) (view : A → X) → asked_and (run known (test (view x))) (run known (ask_each test (map view (drop (i + 1) xs)))) ≡ run known (ask_each test (map view (drop i xs)))
  each-left test view = sym (run-and known (test (view x)) (ask_each test (map view (drop (i + 1) xs)))) ∙ ap (λ l. run known (ask_each test l)) (sym (left_map xs i x lt at view))

  any-left : (test : X → Test) (view : A → X) → asked_or (run known (test (view x))) (run known (ask_any test (map view (drop (i + 1) xs)))) ≡ run known (ask_any test (map view (drop i xs)))
  any-left test view = sym (run-or known (test (view x)) (ask_any test (map view (drop (i + 1) xs)))) ∙ ap (λ l. run known (ask_any test l)) (sym (left_map xs i x lt at view))

  flat-left : (test : X → Test) (view : A → List X) → asked_and (run known (ask_each test (view x))) (run known (ask_each test (flat_map (λ u. u) (map view (drop (i + 1) xs))))) ≡ run known (ask_each test (flat_map (λ u. u) (map view (drop i xs))))
  flat-left test view = sym (each-flat known test (view x) (map view (drop (i + 1) xs))) ∙ ap (λ l. run known (ask_each test (flat_map (λ u. u) l))) (sym (left_map xs i x lt at view))

  pub each-next : (test : X → Test) (view : A → X) → a ≡ Yes → answer_as a ≡ run known (test (view x)) → run known (ask_each test (map view (drop i xs))) ≡ total → run known (ask_each test (map view (drop (i + 1) xs))) ≡ total
  each-next test view is e left = ap (λ b. asked_and b (run known (ask_each test (map view (drop (i + 1) xs))))) (ap answer_as (sym is) ∙ e) ∙ each-left test view ∙ left

  pub each-ends : (test : X → Test) (view : A → X) → (a ≡ Yes → ⊥) → answer_as a ≡ run known (test (view x)) → run known (ask_each test (map view (drop i xs))) ≡ total → answer_as a ≡ total
  each-ends test view not e left = other-and a (run known (test (view x))) (run known (ask_each test (map view (drop (i + 1) xs)))) e not ∙ each-left test view ∙ left

  pub any-next : (test : X → Test) (view : A → X) → a ≡ No → answer_as a ≡ run known (test (view x)) → run known (ask_any test (map view (drop i xs))) ≡ total → run known (ask_any test (map view (drop (i + 1) xs))) ≡ total
  any-next test view is e left = ap (λ b. asked_or b (run known (ask_any test (map view (drop (i + 1) xs))))) (ap answer_as (sym is) ∙ e) ∙ any-left test view ∙ left

  pub any-ends : (test : X → Test) (view : A → X) → (a ≡ No → ⊥) → answer_as a ≡ run known (test (view x)) → run known (ask_any test (map view (drop i xs))) ≡ total → answer_as a ≡ total
  any-ends test view not e left = other-or a (run known (test (view x))) (run known (ask_any test (map view (drop (i + 1) xs)))) e not ∙ any-left test view ∙ left

  pub flat-next : (test : X → Test) (view : A → List X) → a ≡ Yes → answer_as a ≡ run known (ask_each test (view x)) → run known (ask_each test (flat_map (λ u. u) (map view (drop i xs)))) ≡ total
      → run known (ask_each test (flat_map (λ u. u) (map view (drop (i + 1) xs)))) ≡ total
  flat-next test view is e left = ap (λ b. asked_and b (run known (ask_each test (flat_map (λ u. u) (map view (drop (i + 1) xs)))))) (ap answer_as (sym is) ∙ e) ∙ flat-left test view ∙ left

  pub flat-ends : (test : X → Test) (view : A → List X) → (a ≡ Yes → ⊥) → answer_as a ≡ run known (ask_each test (view x)) → run known (ask_each test (flat_map (λ u. u) (map view (drop i xs)))) ≡ total → answer_as a ≡ total
  flat-ends test view not e left = other-and a (run known (ask_each test (view x))) (run known (ask_each test (flat_map (λ u. u) (map view (drop (i + 1) xs))))) e not ∙ flat-left test view ∙ left
