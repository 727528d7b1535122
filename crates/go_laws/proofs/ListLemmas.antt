-- What stands in a list that is made of others; and what makes an empty list makes nothing.
use Rattle.std.proofs.Common.{◌≡◌, ℕ, ◌+◌, ◌<◌, ◌≤◌, Bool, true, false, Option, Some, None, List, [], ◌∷◌, ◌++◌, ◌⊎◌, inl, inr, map, Contains, refl, sym, ap, ◌∙◌, subst, arith}
use Rattle.std.specs.List.{cons_option, filter_map, flat_map, range_with_len}
use Rattle.std.proofs.lemmas.List.Elements.{Contains-append_cases}
use Rattle.std.proofs.lemmas.List.FromFn.{get_or-range_with_len, length-range_with_len}
use Rattle.go_base.specs.declared.rule.Broken.{Broken}
use Rattle.go_module.specs.Broken.{told_if}
use Rattle.go_model.proofs.FlatLemmas.{flat_contains}
use Rattle.go_module.proofs.MemberLemmas.{cons_cases, contains_head, contains_none, contains_tail}

-- WHAT STANDS IN A LIST

pub in_front : {X : Type 0} (xs : List X) (y : X) → Contains (xs ++ []) y → Contains xs y
in_front xs y h = by_cases (Contains-append_cases xs [] y h)
  where
    by_cases : Contains xs y ⊎ Contains [] y → Contains xs y
    by_cases (inl here) = here
    by_cases (inr none) = absurd (contains_none y none)

-- what stands in a list that is made of several, or of another
-- what is found for one of these
found_by : {X Y : Type 0} (h : X → Option Y) (x : X) (xs : List X) (found : Option Y) (y : Y) → h x ≡ found → Contains (cons_option found (filter_map h xs)) y
    → (Contains (filter_map h xs) y → (z : X) × Contains xs z × (h z ≡ Some y)) → (z : X) × Contains (x ∷ xs) z × (h z ≡ Some y)
found_by h x xs None y e c later = let there = later c in (there.0, contains_tail x xs there.0 there.1, there.2)
found_by {X = X} h x xs (Some w) y e c later = by_cases (cons_cases w (filter_map h xs) y c)
  where
    by_cases : (w ≡ y) ⊎ Contains (filter_map h xs) y → (z : X) × Contains (x ∷ xs) z × (h z ≡ Some y)
    by_cases (inl same) = (x, contains_head x xs x refl, e ∙ ap Some same)
    by_cases (inr inside) = let there = later inside in (there.0, contains_tail x xs there.0 there.1, there.2)

pub found_from : {X Y : Type 0} (h : X → Option Y) (xs : List X) (y : Y) → Contains (filter_map h xs) y → (x : X) × Contains xs x × (h x ≡ Some y)
found_from h [] y c = absurd (contains_none y c)
found_from h (x ∷ xs) y c = found_by h x xs (h x) y refl c (found_from h xs y)

-- n numbers, from a on
pub in_range : (a n x : ℕ) → Contains (range_with_len a n) x → (a ≤ x) × (x < a + n)
in_range a n x h =
    let place = h.0 in
    let lt = h.1 in
    let long = length-range_with_len a n in
    let inside : place < n = omega (arith, lt, long) in
    let at = get_or-range_with_len a n place x inside in
    let is = h.2 in
    (omega (arith, at, is), omega (arith, at, is, inside))

-- EMPTY LISTS

none_by : {X Y : Type 0} (f : X → List Y) (xs : List X) → flat_map f xs ≡ [] → (x : X) → Contains xs x → (l : List Y) → f x ≡ l → l ≡ []
none_by f xs e x h [] is = refl
none_by f xs e x h (y ∷ ys) is =
    let here : Contains (f x) y = subst (λ l. Contains l y) (sym is) (contains_head y ys y refl) in
    absurd (contains_none y (subst (λ l. Contains l y) e (flat_contains f xs x y h here)))

pub none_of_each : {X Y : Type 0} (f : X → List Y) (xs : List X) → flat_map f xs ≡ [] → (x : X) → Contains xs x → f x ≡ []
none_of_each f xs e x h = none_by f xs e x h (f x) refl

pub left_is_empty : {X : Type 0} (xs ys : List X) → xs ++ ys ≡ [] → xs ≡ []
left_is_empty [] ys e = refl
left_is_empty (x ∷ xs) ys e = cc

pub right_is_empty : {X : Type 0} (xs ys : List X) → xs ++ ys ≡ [] → ys ≡ []
right_is_empty [] ys e = e
right_is_empty (x ∷ xs) ys e = cc

pub map_is_empty : {X Y : Type 0} (f : X → Y) (xs : List X) → map f xs ≡ [] → xs ≡ []
map_is_empty f [] e = refl
map_is_empty f (x ∷ xs) e = cc

pub not_told : (holds : Bool) (broken : Broken) → told_if holds broken ≡ [] → holds ≡ false
not_told true broken e = cc
not_told false broken e = refl
