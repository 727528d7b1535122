-- What is made of the items of a list: of which items it is, and that it is the same where it is so item by item.
use Rattle.std.proofs.Common.{◌≡◌, Bool, true, false, cond, Some, None, List, [], ◌∷◌, ◌++◌, ◌⊎◌, Contains, map, inl, inr, refl, sym, ap, subst}
use Rattle.std.specs.Prelude.{filter, find}
use Rattle.std.specs.List.{flat_map}
use Rattle.std.proofs.lemmas.List.Elements.{Contains-append_cases, Contains-append_left, Contains-append_right}
use Rattle.go_module.proofs.MemberLemmas.{cons_cases, contains_head, contains_none, contains_tail}

pub only_is : {X : Type 0} (x y : X) → Contains (x ∷ []) y → x ≡ y
only_is x y h = by_cases (cons_cases x [] y h)
  where
    by_cases : (x ≡ y) ⊎ Contains [] y → x ≡ y
    by_cases (inl same) = same
    by_cases (inr none) = absurd (contains_none y none)

pub flat_cases : {X Y : Type 0} (f : X → List Y) (xs : List X) (y : Y) → Contains (flat_map f xs) y → (x : X) × Contains xs x × Contains (f x) y
flat_cases {X = X} f [] y h = absurd (contains_none y h)
flat_cases {X = X} f (x ∷ xs) y h = by_either (Contains-append_cases (f x) (flat_map f xs) y h) (flat_cases f xs y)
  where
    by_either : Contains (f x) y ⊎ Contains (flat_map f xs) y → (Contains (flat_map f xs) y → (z : X) × Contains xs z × Contains (f z) y) → (z : X) × Contains (x ∷ xs) z × Contains (f z) y
    by_either (inl here) later = (x, contains_head x xs x refl, here)
    by_either (inr there) later = let found = later there in (found.0, contains_tail x xs found.0 found.1, found.2)

pub flat_contains : {X Y : Type 0} (f : X → List Y) (xs : List X) (x : X) (y : Y) → Contains xs x → Contains (f x) y → Contains (flat_map f xs) y
flat_contains f [] x y h i = absurd (contains_none x h)
flat_contains f (z ∷ xs) x y h i = by_cases (cons_cases z xs x h) (flat_contains f xs x y)
  where
    by_cases : (z ≡ x) ⊎ Contains xs x → (Contains xs x → Contains (f x) y → Contains (flat_map f xs) y) → Contains (flat_map f (z ∷ xs)) y
    by_cases (inl same) later = Contains-append_left (f z) (flat_map f xs) y (subst (λ w. Contains (f w) y) (sym same) i)
    by_cases (inr there) later = Contains-append_right (f z) (flat_map f xs) y (later there i)

pub map_cases : {X Y : Type 0} (f : X → Y) (xs : List X) (y : Y) → Contains (map f xs) y → (x : X) × Contains xs x × (f x ≡ y)
map_cases {X = X} f [] y h = absurd (contains_none y h)
map_cases {X = X} f (x ∷ xs) y h = by_cases (cons_cases (f x) (map f xs) y h) (map_cases f xs y)
  where
    by_cases : (f x ≡ y) ⊎ Contains (map f xs) y → (Contains (map f xs) y → (z : X) × Contains xs z × (f z ≡ y)) → (z : X) × Contains (x ∷ xs) z × (f z ≡ y)
    by_cases (inl here) later = (x, contains_head x xs x refl, here)
    by_cases (inr there) later = let found = later there in (found.0, contains_tail x xs found.0 found.1, found.2)

pub filter_within : {X : Type 0} (test : X → Bool) (xs : List X) (x : X) → Contains (filter test xs) x → Contains xs x
filter_within test [] x h = absurd (contains_none x h)
filter_within test (y ∷ ys) x h = by_test (test y) h (filter_within test ys x)
  where
    by_test : (b : Bool) → Contains (cond b (y ∷ filter test ys) (filter test ys)) x → (Contains (filter test ys) x → Contains ys x) → Contains (y ∷ ys) x
    by_test true i later = by_cases (cons_cases y (filter test ys) x i)
      where
        by_cases : (y ≡ x) ⊎ Contains (filter test ys) x → Contains (y ∷ ys) x
        by_cases (inl here) = contains_head y ys x here
        by_cases (inr there) = contains_tail y ys x (later there)
    by_test false i later = contains_tail y ys x (later i)

pub flat_map-same : {A B : Type 0} (f g : A → List B) (xs : List A) → ((x : A) → Contains xs x → f x ≡ g x) → flat_map f xs ≡ flat_map g xs
flat_map-same f g [] same = refl
flat_map-same f g (x ∷ xs) same = (λ i. same x (contains_head x xs x refl) i ++ flat_map-same f g xs (λ y h. same y (contains_tail x xs y h)) i)

pub map-same : {A B : Type 0} (f g : A → B) (xs : List A) → ((x : A) → Contains xs x → f x ≡ g x) → map f xs ≡ map g xs
map-same f g [] same = refl
map-same f g (x ∷ xs) same = (λ i. same x (contains_head x xs x refl) i ∷ map-same f g xs (λ y h. same y (contains_tail x xs y h)) i)

-- what is found, and what a view shows of what is there
pub find_within : {X : Type 0} (test : X → Bool) (xs : List X) (x : X) → find test xs ≡ Some x → Contains xs x
find_within test [] x e = absurd (let never : None ≡ Some x = e in cc)
find_within test (y ∷ ys) x e = by_test (test y) e (find_within test ys x)
  where
    by_test : (b : Bool) → cond b (Some y) (find test ys) ≡ Some x → (find test ys ≡ Some x → Contains ys x) → Contains (y ∷ ys) x
    by_test true found later = let same : y ≡ x = cc in contains_head y ys x same
    by_test false found later = contains_tail y ys x (later found)

pub map_contains : {X Y : Type 0} (f : X → Y) (xs : List X) (x : X) → Contains xs x → Contains (map f xs) (f x)
map_contains f [] x h = absurd (contains_none x h)
map_contains f (z ∷ xs) x h = by_cases (cons_cases z xs x h) (map_contains f xs x)
  where
    by_cases : (z ≡ x) ⊎ Contains xs x → (Contains xs x → Contains (map f xs) (f x)) → Contains (map f (z ∷ xs)) (f x)
    by_cases (inl same) later = contains_head (f z) (map f xs) (f x) (ap f same)
    by_cases (inr there) later = contains_tail (f z) (map f xs) (f x) (later there)
