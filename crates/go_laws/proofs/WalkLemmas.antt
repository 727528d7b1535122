-- A walk among finitely many numbers that never ends comes back.
use Rattle.std.proofs.Common.{◌≡◌, ℕ, zero, suc, ◌≤◌, List, [], ◌∷◌, ◌⊎◌, inl, inr, length, Contains, refl, sym, ap, ◌∙◌, subst, ⊎_elim, arith}
use Rattle.std.specs.Prelude.{◌==◌, if◌then◌else◌}
use Rattle.std.proofs.lemmas.Bool.{cases_eq, eq-eqb, ne_eqb}
use Rattle.go_module.proofs.MemberLemmas.{cons_cases, contains_head, contains_none, contains_tail}

-- without the first occurrence of a number
abbrev without : ℕ → List ℕ → List ℕ
without f [] = []
without f (x ∷ xs) = if x == f then xs else x ∷ without f xs

without_here : (f x : ℕ) (xs : List ℕ) → x ≡ f → without f (x ∷ xs) ≡ xs
without_here f x xs e = rw (eq-eqb x f e) refl

without_there : (f x : ℕ) (xs : List ℕ) → (x ≡ f → ⊥) → without f (x ∷ xs) ≡ x ∷ without f xs
without_there f x xs ne = rw (ne_eqb x f ne) refl

shorter : (f : ℕ) (xs : List ℕ) → Contains xs f → suc (length (without f xs)) ≡ length xs
shorter f [] h = absurd (contains_none f h)
shorter f (x ∷ xs) h =
    ⊎_elim
    (λ here. ap (λ ys. suc (length ys)) (without_here f x xs here))
    (λ ne. ap (λ ys. suc (length ys)) (without_there f x xs ne) ∙ ap suc (shorter f xs (behind ne (cons_cases x xs f h))))
    (cases_eq x f)
  where
    behind : (x ≡ f → ⊥) → (x ≡ f) ⊎ Contains xs f → Contains xs f
    behind ne (inl here) = absurd (ne here)
    behind ne (inr there) = there

kept : (f n : ℕ) (xs : List ℕ) → Contains xs n → (n ≡ f) ⊎ Contains (without f xs) n
kept f n [] h = absurd (contains_none n h)
kept f n (x ∷ xs) h =
    ⊎_elim
    (λ here. at_here here (cons_cases x xs n h))
    (λ ne. at_there ne (cons_cases x xs n h) (kept f n xs))
    (cases_eq x f)
  where
    at_here : x ≡ f → (x ≡ n) ⊎ Contains xs n → (n ≡ f) ⊎ Contains (without f (x ∷ xs)) n
    at_here e (inl same) = inl (sym same ∙ e)
    at_here e (inr there) = inr (subst (λ (ys : List ℕ). Contains ys n) (sym (without_here f x xs e)) there)

    later : (n ≡ f) ⊎ Contains (without f xs) n → (n ≡ f) ⊎ Contains (x ∷ without f xs) n
    later (inl same) = inl same
    later (inr there) = inr (contains_tail x (without f xs) n there)

    back : (x ≡ f → ⊥) → (n ≡ f) ⊎ Contains (x ∷ without f xs) n → (n ≡ f) ⊎ Contains (without f (x ∷ xs)) n
    back ne (inl same) = inl same
    back ne (inr there) = inr (subst (λ (ys : List ℕ). Contains ys n) (sym (without_there f x xs ne)) there)

    at_there : (x ≡ f → ⊥) → (x ≡ n) ⊎ Contains xs n → (Contains xs n → (n ≡ f) ⊎ Contains (without f xs) n) → (n ≡ f) ⊎ Contains (without f (x ∷ xs)) n
    at_there ne (inl same) rest = back ne (inr (contains_head x (without f xs) n same))
    at_there ne (inr there) rest = back ne (later (rest there))

-- of a relation that is made of steps, and of numbers of which each steps to another
module _ (Open : ℕ → Type 0) (Step Way : ℕ → ℕ → Type 0)
    (one : (a b : ℕ) → Step a b → Way a b) (more : (a b c : ℕ) → Way a b → Step b c → Way a c)
    (no_return : (a : ℕ) → Open a → Way a a → ⊥)
    (next : (a : ℕ) → Open a → (b : ℕ) × Open b × Step a b) where
  -- each number that is left is among these, or leads to the one where the walk stands
  abbrev Left : List ℕ → ℕ → Type 0
  Left rest at = (n : ℕ) → Open n → Contains rest n ⊎ ((n ≡ at) ⊎ Way n at)

  -- the step from where the walk stands leads out of what is left, or back
  onward : (rest : List ℕ) (at b : ℕ) → Step at b → (n : ℕ) → Open n → Contains rest n ⊎ ((n ≡ at) ⊎ Way n at) → Contains (without b rest) n ⊎ ((n ≡ b) ⊎ Way n b)
  onward rest at b step n o (inl there) = by_kept (kept b n rest there)
    where
      by_kept : (n ≡ b) ⊎ Contains (without b rest) n → Contains (without b rest) n ⊎ ((n ≡ b) ⊎ Way n b)
      by_kept (inl same) = inr (inl same)
      by_kept (inr is) = inl is
  onward rest at b step n o (inr (inl same)) = inr (inr (subst (λ i. Way i b) (sym same) (one at b step)))
  onward rest at b step n o (inr (inr way)) = inr (inr (more n at b way step))

  returns : (at b : ℕ) → Open at → Open b → Step at b → (b ≡ at) ⊎ Way b at → ⊥
  returns at b o p step (inl same) = no_return at o (subst (Way at) same (one at b step))
  returns at b o p step (inr way) = no_return b p (more b at b way step)

  walk : (bound : ℕ) (rest : List ℕ) (at : ℕ) → length rest ≤ bound → Open at → Left rest at → ⊥
  walk zero rest at fits o left = by_left (left (next at o).0 (next at o).1)
    where
      by_left : Contains rest (next at o).0 ⊎ (((next at o).0 ≡ at) ⊎ Way (next at o).0 at) → ⊥
      by_left (inl there) = let some = shorter (next at o).0 rest there in omega (arith, some, fits)
      by_left (inr back) = returns at (next at o).0 o (next at o).1 (next at o).2 back
  walk (suc bound) rest at fits o left =
      by_left
      (λ there. (let some = shorter (next at o).0 rest there in walk bound (without (next at o).0 rest) (next at o).0 (omega (arith, some, fits)) (next at o).1 (λ n p. onward rest at (next at o).0 (next at o).2 n p (left n p))))
      (left (next at o).0 (next at o).1)
    where
      by_left : (Contains rest (next at o).0 → ⊥) → Contains rest (next at o).0 ⊎ (((next at o).0 ≡ at) ⊎ Way (next at o).0 at) → ⊥
      by_left further (inl there) = further there
      by_left further (inr back) = returns at (next at o).0 o (next at o).1 (next at o).2 back

  pub no_walk : (all : List ℕ) (at : ℕ) → Open at → ((n : ℕ) → Open n → Contains all n) → ⊥
  no_walk all at is_open among = walk (length all) all at (omega arith) is_open (λ n o. inl (among n o))
