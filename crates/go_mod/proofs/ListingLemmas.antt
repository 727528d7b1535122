-- Lemmas on specs/Listing.antt and specs/PathParts.antt.
use Rattle.std.proofs.Common.{◌≡◌, ℕ, zero, suc, ◌+◌, ◌<◌, ◌≤◌, Bool, true, false, cond, ◌||◌, List, [], ◌∷◌, ◌++◌, length, map, get_or, take, refl, sym, ap, ◌∙◌, inl, inr, arith}
use Rattle.std.specs.List.{list_any, filter, range_with_len}
use Rattle.std.proofs.lemmas.Bool.{cases_lt}
use Rattle.std.proofs.lemmas.List.Elements.{filter_more}
use Rattle.go_module.specs.Modules.PathParts.{folders, is_slash}

pub list_any-agree : {X : Type 0} (p q : X → Bool) → ((x : X) → p x ≡ q x) → (xs : List X) → list_any p xs ≡ list_any q xs
list_any-agree p q e [] = refl
list_any-agree p q e (x ∷ xs) = rw (e x, list_any-agree p q e xs) refl

module _ (q : ℕ → Bool) (f : ℕ → List ℕ) (p : List ℕ → Bool) where
  none-step : (b : Bool) (a : ℕ) (rest : List ℕ) → (b ≡ true → p (f a) ≡ false) → list_any p (map f rest) ≡ false → list_any p (map f (cond b (a ∷ rest) rest)) ≡ false
  none-step true a rest here there = rw (here refl, there) refl
  none-step false a rest here there = there

  none_in : (a n : ℕ) → ((k : ℕ) → a ≤ k → k < a + n → q k ≡ true → p (f k) ≡ false) → list_any p (map f (filter q (range_with_len a n))) ≡ false
  none_in a zero none = refl
  none_in a (suc n) none = none-step (q a) a (filter q (range_with_len (a + 1) n))
      (none a (omega arith) (omega arith))
      (none_in (a + 1) n (λ k lo hi. none k (omega arith) (omega arith)))

  some-here : (b : Bool) (a : ℕ) (rest : List ℕ) → b ≡ true → p (f a) ≡ true → list_any p (map f (cond b (a ∷ rest) rest)) ≡ true
  some-here true a rest e here = rw here refl
  some-here false a rest e here = cc

  or_right : (a b : Bool) → b ≡ true → (a || b) ≡ true
  or_right true b e = refl
  or_right false b e = e

  some-there : (b : Bool) (a : ℕ) (rest : List ℕ) → list_any p (map f rest) ≡ true → list_any p (map f (cond b (a ∷ rest) rest)) ≡ true
  some-there true a rest there = or_right (p (f a)) _ there
  some-there false a rest there = there

  some_in : (a n k : ℕ) → a ≤ k → k < a + n → q k ≡ true → p (f k) ≡ true → list_any p (map f (filter q (range_with_len a n))) ≡ true
  some_in a zero k lo hi at here = absurd (omega arith)
  some_in a (suc n) k lo hi at here = elim (cases_lt a k) [
    | inl lt ↦ some-there (q a) a (filter q (range_with_len (a + 1) n)) (some_in (a + 1) n k (omega arith) (omega arith) at here)
    | inr ge ↦
        let one : k ≡ a = omega arith in
        some-here (q a) a (filter q (range_with_len (a + 1) n)) (sym (ap q one) ∙ at) (sym (ap (λ i. p (f i)) one) ∙ here)
  ]

-- no folder on a path's way passes
pub no_folder : (p : List ℕ → Bool) (path : List ℕ) → ((k : ℕ) → k < length path → is_slash (get_or path k 0) ≡ true → p (take k path) ≡ false) → list_any p (folders path) ≡ false
no_folder p path none =
    none_in (λ end. is_slash (get_or path end 0)) (λ end. take end path) p 0 (length path) (λ k lo hi. none k (omega arith))

-- a folder on a path's way passes
pub some_folder : (p : List ℕ → Bool) (path : List ℕ) (k : ℕ) → k < length path → is_slash (get_or path k 0) ≡ true → p (take k path) ≡ true → list_any p (folders path) ≡ true
some_folder p path k short at here =
    some_in (λ end. is_slash (get_or path end 0)) (λ end. take end path) p 0 (length path) k (omega arith) (omega arith) at here

-- what one more element adds to those that pass
pub filter_one_more : (p : List ℕ → Bool) (xs : List (List ℕ)) (i : ℕ) (x : List ℕ) (b : Bool) → i < length xs → x ≡ get_or xs i x → p x ≡ b → filter p (take (i + 1) xs) ≡ filter p (take i xs) ++ cond b (x ∷ []) []
filter_one_more p xs i x b short at passes =
    filter_more p xs i x short
    ∙ ap (λ y. filter p (take i xs) ++ cond (p y) (y ∷ []) []) (sym at)
    ∙ ap (λ t. filter p (take i xs) ++ cond t (x ∷ []) []) passes
