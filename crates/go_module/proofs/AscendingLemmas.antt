-- Lemmas on lists that ascend by a strict order: there is one of given members.
use Rattle.std.proofs.Common.{◌≡◌, ℕ, zero, suc, ◌<◌, List, [], ◌∷◌, length, get_or, ◌⊎◌, inl, inr, ⊎_elim, refl, sym, ap, subst, ◌∙◌, arith}
use Rattle.std.specs.List.{AllPairs, Contains}

module _ {X : Type 0} (R : X → X → Type 0) (irrefl : (x : X) → R x x → ⊥) (chain : (x y z : X) → R x y → R y z → R x z) where
  cons_at : (x : X) (xs : List X) (y : X) (k : ℕ) → k < length (x ∷ xs) → get_or (x ∷ xs) k y ≡ y → (x ≡ y) ⊎ Contains xs y
  cons_at x xs y zero lt at = inl at
  cons_at x xs y (suc k) lt at = inr (k, omega (arith, lt), at)

  cons_cases : (x : X) (xs : List X) (y : X) → Contains (x ∷ xs) y → (x ≡ y) ⊎ Contains xs y
  cons_cases x xs y h = cons_at x xs y h.0 h.1 h.2

  contains_head : (x : X) (xs : List X) → Contains (x ∷ xs) x
  contains_head x xs = (0, omega arith, refl)

  contains_tail : (x : X) (xs : List X) (y : X) → Contains xs y → Contains (x ∷ xs) y
  contains_tail x xs y h = (suc h.0, (let lt = h.1 in omega (arith, lt)), h.2)

  contains_none : (y : X) → Contains [] y → ⊥
  contains_none y h = let lt = h.1 in omega (arith, lt)

  pairs_tail : (x : X) (xs : List X) → AllPairs R (x ∷ xs) → AllPairs R xs
  pairs_tail x xs h i j d lt within = h (suc i) (suc j) d (omega (arith, lt)) (omega (arith, within))

  pairs_head : (x : X) (xs : List X) (y : X) → AllPairs R (x ∷ xs) → Contains xs y → R x y
  pairs_head x xs y h c = subst (R x) c.2 (h 0 (suc c.0) y (omega arith) (let lt = c.1 in omega (arith, lt)))

  -- a part of a list that ascends lies in the other's rest, where both begin alike
  in_rest : (x : X) (xs ys : List X) → AllPairs R (x ∷ xs) → ((z : X) → Contains (x ∷ xs) z → Contains (x ∷ ys) z) → (z : X) → Contains xs z → Contains ys z
  in_rest x xs ys up part z h = ⊎_elim
      (λ (same : x ≡ z). absurd (irrefl x (subst (R x) (sym same) (pairs_head x xs z up h))))
      (λ (c : Contains ys z). c)
      (cons_cases x ys z (part z (contains_tail x xs z h)))

  same_head : (x : X) (xs : List X) (y : X) (ys : List X) → AllPairs R (x ∷ xs) → AllPairs R (y ∷ ys) → Contains (y ∷ ys) x → Contains (x ∷ xs) y → x ≡ y
  same_head x xs y ys upx upy hx hy = ⊎_elim
      (λ (same : y ≡ x). sym same)
      (λ (inx : Contains ys x). ⊎_elim
      (λ (same : x ≡ y). same)
      (λ (iny : Contains xs y). absurd (irrefl x (chain x y x (pairs_head x xs y upx iny) (pairs_head y ys x upy inx))))
      (cons_cases x xs y hy))
      (cons_cases y ys x hx)

  -- there is one ascending list of given members
  pub ascending_once : (a b : List X) → AllPairs R a → AllPairs R b → ((z : X) → Contains a z → Contains b z) → ((z : X) → Contains b z → Contains a z) → a ≡ b
  ascending_once [] [] upa upb there back = refl
  ascending_once [] (y ∷ ys) upa upb there back = absurd (contains_none y (back y (contains_head y ys)))
  ascending_once (x ∷ xs) [] upa upb there back = absurd (contains_none x (there x (contains_head x xs)))
  ascending_once (x ∷ xs) (y ∷ ys) upa upb there back =
      let same : y ≡ x = sym (same_head x xs y ys upa upb (there x (contains_head x xs)) (back y (contains_head y ys))) in
      let up : AllPairs R (x ∷ ys) = subst (λ (w : X). AllPairs R (w ∷ ys)) same upb in
      let to : (z : X) → Contains (x ∷ xs) z → Contains (x ∷ ys) z = subst (λ (w : X). (z : X) → Contains (x ∷ xs) z → Contains (w ∷ ys) z) same there in
      let from : (z : X) → Contains (x ∷ ys) z → Contains (x ∷ xs) z = subst (λ (w : X). (z : X) → Contains (w ∷ ys) z → Contains (x ∷ xs) z) same back in
      ap (λ t. x ∷ t) (ascending_once xs ys (pairs_tail x xs upa) (pairs_tail x ys up) (in_rest x xs ys upa to) (in_rest x ys xs up from)) ∙ ap (λ w. w ∷ ys) (sym same)
