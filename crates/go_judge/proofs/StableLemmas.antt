-- Lists in order: of what was found there is one list that is sorted and stable by a strict weak order.
use Rattle.std.proofs.Common.{◌≡◌, suc, ◌+◌, Bool, true, false, cond, not, ◌&&◌, List, [], ◌∷◌, get_or, refl, sym, ap, subst, ◌∙◌, arith}
use Rattle.std.specs.Prelude.{filter}
use Rattle.std.specs.Cmp.{IsStrictWeakOrder}
use Rattle.std.specs.List.{All}
use Rattle.std.specs.List.Sorted.{IsSortedBy, IsStableBy, ties}
use Rattle.std.proofs.lemmas.List.Elements.{All-filter}
use Rattle.std.proofs.lemmas.List.Sorted.{sorted_far}

neither : (s t : Bool) → s ≡ false → t ≡ false → not s && not t ≡ true
neither false false e f = refl
neither false true e f = cc
neither true t e f = cc

not_both : (b : Bool) → (b ≡ true → b ≡ false) → b ≡ false
not_both true h = h refl
not_both false h = refl

-- what is left of two lists that begin alike and were kept alike
rest_alike : {X : Type 0} (b : Bool) (x : X) (xs ys : List X) → cond b (x ∷ xs) xs ≡ cond b (x ∷ ys) ys → xs ≡ ys
rest_alike true x xs ys e = cc
rest_alike false x xs ys e = e

module _ {X : Type 0} (lt : X → X → Bool) (order : IsStrictWeakOrder lt) where
  tied_itself : (x : X) → ties lt x x ≡ true
  tied_itself x = let not_less = not_both (lt x x) (order.one_way x x) in neither (lt x x) (lt x x) not_less not_less

  kept_first : (x y : X) (ys : List X) → ties lt x y ≡ true → filter (ties lt x) (y ∷ ys) ≡ y ∷ filter (ties lt x) ys
  kept_first x y ys e = ap (λ b. cond b (y ∷ filter (ties lt x) ys) (filter (ties lt x) ys)) e

  sorted_rest : (x : X) (xs : List X) → IsSortedBy lt (x ∷ xs) → IsSortedBy lt xs
  sorted_rest x xs sorted k d from within =
      let next : suc k + 1 ≡ suc (k + 1) = omega arith in
      subst (λ n. lt (get_or (x ∷ xs) n d) (get_or xs k d) ≡ false) next (sorted (suc k) d (omega arith) (omega arith))

  -- the first of a list in order: none of it is less
  none_less : (y : X) (ys : List X) → IsSortedBy lt (y ∷ ys) → All (λ z. lt z y ≡ false) (y ∷ ys)
  none_less y ys sorted k d within = sorted_far lt order (y ∷ ys) sorted 0 k d (omega arith) within

  -- nor is what stands first in the other list, where both keep alike
  first_not_less : (x : X) (xs : List X) (y : X) (ys : List X) → filter (ties lt x) (x ∷ xs) ≡ filter (ties lt x) (y ∷ ys) → IsSortedBy lt (y ∷ ys) → lt x y ≡ false
  first_not_less x xs y ys same sorted =
      let all = All-filter (ties lt x) (λ z. lt z y ≡ false) (y ∷ ys) (none_less y ys sorted) in
      let kept : All (λ z. lt z y ≡ false) (x ∷ filter (ties lt x) xs) = subst (All (λ z. lt z y ≡ false)) (sym same ∙ kept_first x x xs (tied_itself x)) all in
      kept 0 x (omega arith)

  first_alike : (x : X) (xs : List X) (y : X) (ys : List X) → ((z : X) → filter (ties lt z) (x ∷ xs) ≡ filter (ties lt z) (y ∷ ys)) → IsSortedBy lt (x ∷ xs) → IsSortedBy lt (y ∷ ys) → x ≡ y
  first_alike x xs y ys same upx upy =
      let tied : ties lt x y ≡ true = neither (lt x y) (lt y x) (first_not_less x xs y ys (same x) upy) (first_not_less y ys x xs (sym (same y)) upx) in
      let both : x ∷ filter (ties lt x) xs ≡ y ∷ filter (ties lt x) ys = sym (kept_first x x xs (tied_itself x)) ∙ same x ∙ kept_first x y ys tied in
      cc both

  none_kept : (y : X) (ys : List X) → [] ≡ filter (ties lt y) (y ∷ ys) → ⊥
  none_kept y ys e = let none : [] ≡ y ∷ filter (ties lt y) ys = e ∙ kept_first y y ys (tied_itself y) in cc none

  -- two sorted lists that keep alike what ties are one
  alike_sorted : (a b : List X) → ((x : X) → filter (ties lt x) a ≡ filter (ties lt x) b) → IsSortedBy lt a → IsSortedBy lt b → a ≡ b
  alike_sorted [] [] same upa upb = refl
  alike_sorted [] (y ∷ ys) same upa upb = absurd (none_kept y ys (same y))
  alike_sorted (x ∷ xs) [] same upa upb = absurd (none_kept x xs (sym (same x)))
  alike_sorted (x ∷ xs) (y ∷ ys) same upa upb =
      let first : y ≡ x = sym (first_alike x xs y ys same upa upb) in
      let alike : (z : X) → filter (ties lt z) (x ∷ xs) ≡ filter (ties lt z) (x ∷ ys) = subst (λ (w : X). (z : X) → filter (ties lt z) (x ∷ xs) ≡ filter (ties lt z) (w ∷ ys)) first same in
      let rest = alike_sorted xs ys (λ z. rest_alike (ties lt z x) x (filter (ties lt z) xs) (filter (ties lt z) ys) (alike z)) (sorted_rest x xs upa) (sorted_rest y ys upb) in
      ap (λ t. x ∷ t) rest ∙ ap (λ w. w ∷ ys) (sym first)

  pub one_stable : (found a b : List X) → IsSortedBy lt a → IsSortedBy lt b → IsStableBy lt found a → IsStableBy lt found b → a ≡ b
  one_stable found a b upa upb left right = alike_sorted a b (λ x. left x ∙ sym (right x)) upa upb
