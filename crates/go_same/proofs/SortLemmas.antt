-- The sort that puts each element in its place: it is in order and stable, so any sort that is so gives the same list.
use Rattle.std.proofs.Common.{◌≡◌, ℕ, zero, suc, ◌+◌, ◌<◌, Bool, true, false, cond, not, ◌&&◌, List, [], ◌∷◌, length, get_or, filter, refl, sym, ap, subst, ◌∙◌, arith}
use Rattle.std.specs.Cmp.{IsStrictWeakOrder}
use Rattle.std.specs.List.Sorted.{IsSortedBy, IsStableBy, ties}
use Rattle.go_judge.proofs.StableLemmas.{one_stable}

both_false : (s t : Bool) → not s && not t ≡ true → (s ≡ false) × (t ≡ false)
both_false false false e = (refl, refl)
both_false false true e = cc
both_false true t e = cc

-- two that are not both kept change places
swap_kept : {X : Type 0} (x y : X) (kept : List X) (p q : Bool) → (p ≡ true → q ≡ true → ⊥) → cond q (y ∷ cond p (x ∷ kept) kept) (cond p (x ∷ kept) kept) ≡ cond p (x ∷ cond q (y ∷ kept) kept) (cond q (y ∷ kept) kept)
swap_kept x y kept true true apart = absurd (apart refl refl)
swap_kept x y kept true false apart = refl
swap_kept x y kept false q apart = refl

module _ {X : Type 0} (lt : X → X → Bool) where
  abbrev pub put : X → List X → List X
  put x [] = x ∷ []
  put x (y ∷ ys) = cond (lt y x) (y ∷ put x ys) (x ∷ y ∷ ys)

  abbrev pub put_all : List X → List X
  put_all [] = []
  put_all (x ∷ xs) = put x (put_all xs)

  sorted_cons : (x : X) (xs : List X) → ((d : X) → 0 < length xs → lt (get_or xs 0 d) x ≡ false) → IsSortedBy lt xs → IsSortedBy lt (x ∷ xs)
  sorted_cons x xs first sorted zero d low within = first d (omega arith)
  sorted_cons x xs first sorted (suc k) d low within =
      let next : suc (k + 1) ≡ suc k + 1 = omega arith in
      subst (λ (n : ℕ). lt (get_or (x ∷ xs) n d) (get_or xs k d) ≡ false) next (sorted k d (omega arith) (omega arith))

  sorted_rest : (x : X) (xs : List X) → IsSortedBy lt (x ∷ xs) → IsSortedBy lt xs
  sorted_rest x xs sorted k d low within =
      let next : suc k + 1 ≡ suc (k + 1) = omega arith in
      subst (λ (n : ℕ). lt (get_or (x ∷ xs) n d) (get_or xs k d) ≡ false) next (sorted (suc k) d (omega arith) (omega arith))

  sorted_first : (x : X) (xs : List X) → IsSortedBy lt (x ∷ xs) → (d : X) → 0 < length xs → lt (get_or xs 0 d) x ≡ false
  sorted_first x xs sorted d within =
      let next : 0 + 1 ≡ suc 0 = omega arith in
      subst (λ (n : ℕ). lt (get_or (x ∷ xs) n d) x ≡ false) next (sorted 0 d (omega arith) (omega arith))

  first_cond : (b : Bool) (xs ys : List X) (P : X → Type 0) (d : X) → P (get_or xs 0 d) → P (get_or ys 0 d) → P (get_or (cond b xs ys) 0 d)
  first_cond true xs ys P d left right = left
  first_cond false xs ys P d left right = right

  put_first : (P : X → Type 0) (x : X) (ys : List X) (d : X) → P x → (0 < length ys → P (get_or ys 0 d)) → P (get_or (put x ys) 0 d)
  put_first P x [] d here there = here
  put_first P x (y ∷ ys) d here there = first_cond (lt y x) (y ∷ put x ys) (x ∷ y ∷ ys) P d (there (omega arith)) here

  module _ (order : IsStrictWeakOrder lt) where
    put_sorted : (x : X) (ys : List X) → IsSortedBy lt ys → IsSortedBy lt (put x ys)
    put_sorted x [] sorted = sorted_cons x [] (λ d within. absurd (omega arith)) sorted
    put_sorted x (y ∷ ys) sorted =
        let at : (b : Bool) → lt y x ≡ b → IsSortedBy lt (cond b (y ∷ put x ys) (x ∷ y ∷ ys)) =
        λ b. elim b as (λ (v : Bool). lt y x ≡ v → IsSortedBy lt (cond v (y ∷ put x ys) (x ∷ y ∷ ys))) [
          | true ↦ λ less. sorted_cons y (put x ys)
              (λ d within. put_first (λ (w : X). lt w y ≡ false) x ys d (order.one_way y x less) (λ inside. sorted_first y ys sorted d inside))
              (put_sorted x ys (sorted_rest y ys sorted))
          | false ↦ λ less. sorted_cons x (y ∷ ys) (λ d within. less) sorted
        ] in
        at (lt y x) refl

    put_all_sorted : (xs : List X) → IsSortedBy lt (put_all xs)
    put_all_sorted [] = λ k d low within. absurd (omega arith)
    put_all_sorted (x ∷ xs) = put_sorted x (put_all xs) (put_all_sorted xs)

    -- what ties with one thing is not before another that ties with it
    apart : (z x y : X) → lt y x ≡ true → ties lt z x ≡ true → ties lt z y ≡ true → ⊥
    apart z x y less with_x with_y =
        let xs = both_false (lt z x) (lt x z) with_x in
        let ys = both_false (lt z y) (lt y z) with_y in
        let not_less : lt y x ≡ false = order.chain y z x ys.1 xs.0 in
        let wrong : true ≡ false = sym less ∙ not_less in
        cc wrong

    put_stable : (z : X) (x : X) (ys : List X) → filter (ties lt z) (put x ys) ≡ filter (ties lt z) (x ∷ ys)
    put_stable z x [] = refl
    put_stable z x (y ∷ ys) =
        let t : X → Bool = ties lt z in
        let at : (b : Bool) → lt y x ≡ b → filter (ties lt z) (cond b (y ∷ put x ys) (x ∷ y ∷ ys)) ≡ filter (ties lt z) (x ∷ y ∷ ys) =
        λ b. elim b as (λ (v : Bool). lt y x ≡ v → filter (ties lt z) (cond v (y ∷ put x ys) (x ∷ y ∷ ys)) ≡ filter (ties lt z) (x ∷ y ∷ ys)) [
          | true ↦ λ less.
              ap (λ (kept : List X). cond (ties lt z y) (y ∷ kept) kept) (put_stable z x ys)
              ∙ swap_kept x y (filter (ties lt z) ys) (ties lt z x) (ties lt z y) (apart z x y less)
          | false ↦ λ less. refl
        ] in
        at (lt y x) refl

    put_all_stable : (xs : List X) → IsStableBy lt xs (put_all xs)
    put_all_stable [] z = refl
    put_all_stable (x ∷ xs) z = put_stable z x (put_all xs) ∙ ap (λ (kept : List X). cond (ties lt z x) (x ∷ kept) kept) (put_all_stable xs z)

    -- a list in order that is stable is the one that the sort gives
    pub sorted_is : (xs ys : List X) → IsSortedBy lt ys → IsStableBy lt xs ys → ys ≡ put_all xs
    sorted_is xs ys sorted stable = one_stable lt order xs ys (put_all xs) sorted (put_all_sorted xs) stable (put_all_stable xs)

    pub put_all_in_order : (xs : List X) → IsSortedBy lt (put_all xs)
    put_all_in_order xs = put_all_sorted xs

    pub put_all_keeps : (xs : List X) → IsStableBy lt xs (put_all xs)
    put_all_keeps xs = put_all_stable xs
