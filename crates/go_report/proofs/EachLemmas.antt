-- What holds of each element of a list, by recursion on the list.
use Rattle.std.proofs.Common.{◌≡◌, Bool, true, false, cond, Option, Some, None, List, [], ◌∷◌, ◌++◌, map, refl, subst}
use Rattle.std.specs.Prelude.{filter, find}
use Rattle.std.specs.List.{AllByRecursion, cons_option, filter_map, flat_map}

module _ {X : Type 0} (P : X → Type 0) where
  pub each_both : (xs ys : List X) → AllByRecursion P xs → AllByRecursion P ys → AllByRecursion P (xs ++ ys)
  each_both [] ys left right = right
  each_both (x ∷ xs) ys left right = (left.0, each_both xs ys left.1 right)

  pub each_left : (xs ys : List X) → AllByRecursion P (xs ++ ys) → AllByRecursion P xs
  each_left [] ys all = tt
  each_left (x ∷ xs) ys all = (all.0, each_left xs ys all.1)

  pub each_right : (xs ys : List X) → AllByRecursion P (xs ++ ys) → AllByRecursion P ys
  each_right [] ys all = all
  each_right (x ∷ xs) ys all = each_right xs ys all.1

  kept_each : (b : Bool) (x : X) (xs : List X) → P x → AllByRecursion P xs → AllByRecursion P (cond b (x ∷ xs) xs)
  kept_each true x xs here rest = (here, rest)
  kept_each false x xs here rest = rest

  pub each_filter : (test : X → Bool) (xs : List X) → AllByRecursion P xs → AllByRecursion P (filter test xs)
  each_filter test [] all = tt
  each_filter test (x ∷ xs) all = kept_each (test x) x (filter test xs) all.0 (each_filter test xs all.1)

  found_here : (b : Bool) (x y : X) (rest : Option X) → P x → (rest ≡ Some y → P y) → cond b (Some x) rest ≡ Some y → P y
  found_here true x y rest here later found = let same : x ≡ y = cc found in subst P same here
  found_here false x y rest here later found = later found

  pub each_found : (test : X → Bool) (xs : List X) (y : X) → AllByRecursion P xs → find test xs ≡ Some y → P y
  each_found test [] y all found = cc
  each_found test (x ∷ xs) y all found = found_here (test x) x y (find test xs) all.0 (each_found test xs y all.1) found

  one_more : (found : Option X) (xs : List X) → ((x : X) → found ≡ Some x → P x) → AllByRecursion P xs → AllByRecursion P (cons_option found xs)
  one_more None xs here rest = rest
  one_more (Some x) xs here rest = (here x refl, rest)

  module _ {Y : Type 0} where
    pub each_map : (f : Y → X) (ys : List Y) → AllByRecursion (λ y. P (f y)) ys → AllByRecursion P (map f ys)
    each_map f [] all = tt
    each_map f (y ∷ ys) all = (all.0, each_map f ys all.1)

    pub each_of_map : (f : Y → X) (ys : List Y) → AllByRecursion P (map f ys) → AllByRecursion (λ y. P (f y)) ys
    each_of_map f [] all = tt
    each_of_map f (y ∷ ys) all = (all.0, each_of_map f ys all.1)

    pub each_flat_map : (f : Y → List X) → ((y : Y) → AllByRecursion P (f y)) → (ys : List Y) → AllByRecursion P (flat_map f ys)
    each_flat_map f one [] = tt
    each_flat_map f one (y ∷ ys) = each_both (f y) (flat_map f ys) (one y) (each_flat_map f one ys)

    pub each_filter_map : (f : Y → Option X) → ((y : Y) (x : X) → f y ≡ Some x → P x) → (ys : List Y) → AllByRecursion P (filter_map f ys)
    each_filter_map f one [] = tt
    each_filter_map f one (y ∷ ys) = one_more (f y) (filter_map f ys) (one y) (each_filter_map f one ys)
