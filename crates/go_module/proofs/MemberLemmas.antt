-- Members of lists, and lists in order.
use Rattle.std.specs.Prelude.{slice_get}
use Rattle.std.proofs.Common.{◌≡◌, ℕ, zero, suc, ◌+◌, ◌<◌, ◌≤◌, None, List, [], ◌∷◌, ◌++◌, ◌⊎◌, inl, inr, length, get_or, refl, ap, ◌∙◌, arith}
use Rattle.std.specs.List.{Contains, range_with_len}

cons_at : {X : Type 0} (x : X) (xs : List X) (y : X) (k : ℕ) → k < length (x ∷ xs) → get_or (x ∷ xs) k y ≡ y → (x ≡ y) ⊎ Contains xs y
cons_at x xs y zero lt at = inl at
cons_at x xs y (suc k) lt at = inr (k, omega (arith, lt), at)

pub cons_cases : {X : Type 0} (x : X) (xs : List X) (y : X) → Contains (x ∷ xs) y → (x ≡ y) ⊎ Contains xs y
cons_cases x xs y h = cons_at x xs y h.0 h.1 h.2

pub contains_head : {X : Type 0} (x : X) (xs : List X) (y : X) → x ≡ y → Contains (x ∷ xs) y
contains_head x xs y e = (0, omega arith, e)

pub contains_tail : {X : Type 0} (x : X) (xs : List X) (y : X) → Contains xs y → Contains (x ∷ xs) y
contains_tail x xs y h = (suc h.0, (let lt = h.1 in omega (arith, lt)), h.2)

pub contains_none : {X : Type 0} (y : X) → Contains [] y → ⊥
contains_none y h = let lt = h.1 in omega (arith, lt)

-- one more number
pub range_more : (a n : ℕ) → range_with_len a (suc n) ≡ range_with_len a n ++ (a + n) ∷ []
range_more a zero = ap (λ m. m ∷ []) (let e : a ≡ a + 0 = omega arith in e)
range_more a (suc n) =
    let e : (a + 1) + n ≡ a + suc n = omega arith in
    ap (λ xs. a ∷ xs) (range_more (a + 1) n ∙ ap (λ m. range_with_len (a + 1) n ++ m ∷ []) e)

-- nothing stands past the end
pub get_beyond : {X : Type 0} (xs : List X) (i : ℕ) → length xs ≤ i → slice_get xs i ≡ None
get_beyond [] i le = refl
get_beyond (x ∷ xs) zero le = absurd (omega (arith, le))
get_beyond (x ∷ xs) (suc i) le = get_beyond xs i (omega (arith, le))
