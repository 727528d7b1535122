-- Walks over two lists that are in order: what is behind what is passed, and which elements tie with one thing.
use Rattle.std.proofs.Common.{◌≡◌, ℕ, zero, suc, ◌<◌, ◌≤◌, Bool, true, false, cond, not, ◌&&◌, List, [], ◌∷◌, length, get_or, take, filter, refl, sym, ap, subst, ◌∙◌, arith}
use Rattle.std.specs.Cmp.{IsStrictWeakOrder}
use Rattle.std.specs.List.Sorted.{IsSortedBy, ties}
use Rattle.std.proofs.lemmas.List.{get_or_default}
use Rattle.std.proofs.lemmas.List.Sorted.{sorted_far}

-- FILTERS

-- the first so many elements of which none is kept
pub filter_none : {X : Type 0} (p : X → Bool) (xs : List X) (n : ℕ) → ((k : ℕ) (d : X) → k < n → k < length xs → p (get_or xs k d) ≡ false) → filter p (take n xs) ≡ []
filter_none p xs zero none = refl
filter_none p [] (suc n) none = refl
filter_none {X} p (x ∷ xs) (suc n) none =
    ap (λ (kept : Bool). cond kept (x ∷ filter p (take n xs)) (filter p (take n xs))) (none 0 x (omega arith) (omega arith))
    ∙ filter_none p xs n (λ k d below within. none (suc k) d (omega arith) (omega arith))

-- the other way round: none is kept from a place on
pub filter_front : {X : Type 0} (p : X → Bool) (xs : List X) (n : ℕ) → ((k : ℕ) (d : X) → n ≤ k → k < length xs → p (get_or xs k d) ≡ false) → filter p xs ≡ filter p (take n xs)
filter_front p [] zero none = refl
filter_front p [] (suc n) none = refl
filter_front p (x ∷ xs) zero none =
    ap (λ (kept : Bool). cond kept (x ∷ filter p xs) (filter p xs)) (none 0 x (omega arith) (omega arith))
    ∙ filter_front p xs zero (λ k d low within. none (suc k) d (omega arith) (omega arith))
filter_front p (x ∷ xs) (suc n) none =
    ap (λ (kept : List _). cond (p x) (x ∷ kept) kept) (filter_front p xs n (λ k d low within. none (suc k) d (omega arith) (omega arith)))

-- ORDER

module _ {X : Type 0} (lt : X → X → Bool) (order : IsStrictWeakOrder lt) where
  by_cases : (b : Bool) → (b ≡ false → ⊥) → b ≡ true
  by_cases true never = refl
  by_cases false never = absurd (never refl)

  -- what is before one thing is before what is not before that
  pub before_behind : (a b c : X) → lt a b ≡ true → lt c b ≡ false → lt a c ≡ true
  before_behind a b c less behind = by_cases (lt a c) (λ e. let wrong : true ≡ false = sym less ∙ order.chain a c b e behind in cc wrong)

  module _ (same : X → X → Bool) (is : (a b : X) → ties lt a b ≡ same a b) where
    pub not_same_before : (m n : X) → lt n m ≡ true → same m n ≡ false
    not_same_before m n less = sym (is m n) ∙ ap (λ (b : Bool). not b && not (lt n m)) (order.one_way n m less) ∙ ap not less

    pub not_same_behind : (m n : X) → lt m n ≡ true → same m n ≡ false
    not_same_behind m n less = sym (is m n) ∙ ap (λ (b : Bool). not b && not (lt n m)) less

    neither_so : (s t : Bool) → not s && not t ≡ false → t ≡ false → s ≡ true
    neither_so true t e f = refl
    neither_so false true e f = cc
    neither_so false false e f = cc

    -- what is not before a thing and not tied with it is behind it
    pub behind : (m n : X) → lt n m ≡ false → same m n ≡ false → lt m n ≡ true
    behind m n not_before other = neither_so (lt m n) (lt n m) (is m n ∙ other) not_before

    -- behind it is all of a list in order from there on
    pub none_from : (m : X) (ns : List X) (n : X) (from : ℕ) → IsSortedBy lt ns → n ≡ get_or ns from n → lt n m ≡ false → same m n ≡ false → (k : ℕ) (d : X) → from ≤ k → k < length ns → same m (get_or ns k d) ≡ false
    none_from m ns n from sorted at not_before other k d low within =
        let far : lt (get_or ns k n) (get_or ns from n) ≡ false = sorted_far lt order ns sorted from k n low within in
        let here : lt (get_or ns k n) n ≡ false = subst (λ (w : X). lt (get_or ns k n) w ≡ false) (sym at) far in
        let one : get_or ns k d ≡ get_or ns k n = get_or_default ns k d n within in
        ap (same m) one ∙ not_same_behind m (get_or ns k n) (before_behind m n (get_or ns k n) (behind m n not_before other) here)
