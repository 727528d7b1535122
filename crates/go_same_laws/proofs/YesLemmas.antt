-- Questions that come to Yes over the headers that are known: one after another, and of each element of a list.
use Rattle.std.proofs.Common.{◌≡◌, ℕ, Bool, true, false, if◌then◌else◌, Option, Some, None, List, [], ◌∷◌, refl, sym, ap, ◌∙◌}
use Rattle.std.specs.List.{AllByRecursion}
use Rattle.go_judge.specs.Headers.{Headers}
use Rattle.go_judge.specs.Types.TypeIdentity.{Test, and_ask, ask_each}
use Rattle.go_judge.specs.Quests.{Asked, Decided, Lacks, Quest, Done, Need, run, then_ask}

-- what a question and then another come to, by what the first comes to
abbrev pub after : {A B : Type 0} → Asked A → (A → Asked B) → Asked B
after (Decided a) next = next a
after (Lacks d) next = Lacks d

pub run-then : {H A B : Type 0} (known : ℕ → Option H) (q : Quest H A) (next : A → Quest H B) → run known (then_ask q next) ≡ after (run known q) (λ a. run known (next a))
run-then known (Done a) next = refl
run-then {H} {A} {B} known (Need d go_on) next = go (known d) (λ h. run-then known (go_on h) next)
  where
    go : (o : Option H) → ((h : H) → run known (then_ask (go_on h) next) ≡ after (run known (go_on h)) (λ a. run known (next a)))
        → elim o as (λ _. Asked B) [ None ↦ Lacks d | Some h ↦ run known (then_ask (go_on h) next) ]
        ≡ after (elim o as (λ _. Asked A) [ None ↦ Lacks d | Some h ↦ run known (go_on h) ]) (λ a. run known (next a))
    go None rest = refl
    go (Some h) rest = rest h

-- the first is decided, and what is asked by its answer is decided so
pub record Thence {H A B : Type 0} (known : ℕ → Option H) (q : Quest H A) (next : A → Quest H B) (r : B) : Type 0 where
  pub answer : A
  pub first : run known q ≡ Decided answer
  pub second : run known (next answer) ≡ Decided r

pub thence : {H A B : Type 0} (known : ℕ → Option H) (q : Quest H A) (next : A → Quest H B) (r : B) → run known (then_ask q next) ≡ Decided r → Thence known q next r
thence {H} {A} {B} known q next r e = go (run known q) refl (sym (run-then known q next) ∙ e)
  where
    go : (x : Asked A) → run known q ≡ x → after x (λ a. run known (next a)) ≡ Decided r → Thence known q next r
    go (Decided a) is f = record { answer = a; first = is; second = f }
    go (Lacks d) is f = absurd (cc f)

pub hence : {H A B : Type 0} (known : ℕ → Option H) (q : Quest H A) (next : A → Quest H B) (a : A) (r : B) → run known q ≡ Decided a → run known (next a) ≡ Decided r → run known (then_ask q next) ≡ Decided r
hence known q next a r first second = run-then known q next ∙ ap (λ x. after x (λ a. run known (next a))) first ∙ second

module _ (headers : Headers) where
  abbrev pub IsYes : Test → Type 0
  IsYes q = run headers q ≡ Decided true

  -- No is not Yes
  pub not_no : IsYes (Done false) → ⊥
  not_no e = let wrong : Decided false ≡ Decided true = e in cc wrong

  pub both_yes : (a b : Test) → IsYes a → IsYes b → IsYes (and_ask a b)
  both_yes a b first second = hence headers a (λ so. if so then b else Done false) true true first second

  pub yes_both : (a b : Test) → IsYes (and_ask a b) → IsYes a × IsYes b
  yes_both a b told =
      let parts = thence headers a (λ so. if so then b else Done false) true told in
      go parts.answer parts.first parts.second
    where
      go : (r : Bool) → run headers a ≡ Decided r → IsYes (if r then b else Done false) → IsYes a × IsYes b
      go true first second = (first, second)
      go false first second = absurd (not_no second)

  -- each is Yes
  pub each_yes : {X : Type 0} (test : X → Test) (xs : List X) → IsYes (ask_each test xs) → AllByRecursion (λ x. IsYes (test x)) xs
  each_yes test [] told = tt
  each_yes test (x ∷ xs) told = let parts = yes_both (test x) (ask_each test xs) told in (parts.0, each_yes test xs parts.1)

  pub yes_each : {X : Type 0} (test : X → Test) (xs : List X) → AllByRecursion (λ x. IsYes (test x)) xs → IsYes (ask_each test xs)
  yes_each test [] all = refl
  yes_each test (x ∷ xs) all = both_yes (test x) (ask_each test xs) all.0 (yes_each test xs all.1)
