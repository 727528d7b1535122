-- The first item that passes a test.
use Rattle.std.proofs.Common.{◌≡◌, ℕ, ◌+◌, Bool, true, false, cond, Option, Some, None, List, [], ◌∷◌, ◌++◌, Contains, map, drop, refl, sym, ap, ◌∙◌}
use Rattle.std.specs.Prelude.{find}
use Rattle.std.specs.List.{flat_map}
use Rattle.std.specs.Option.{option_map}
use Rattle.go_module.proofs.MemberLemmas.{contains_head, contains_tail}

-- it is among them
pub find_contains : {X : Type 0} (p : X → Bool) (xs : List X) (x : X) → find p xs ≡ Some x → Contains xs x
find_contains p [] x e = absurd (let never : None ≡ Some x = e in cc)
find_contains p (y ∷ ys) x e = by_test (p y) e (find_contains p ys x)
  where
    by_test : (b : Bool) → cond b (Some y) (find p ys) ≡ Some x → (find p ys ≡ Some x → Contains ys x) → Contains (y ∷ ys) x
    by_test true e later = contains_head y ys x (let both : Some y ≡ Some x = e in cc)
    by_test false e later = contains_tail y ys x (later e)

-- that of what is made of items
pub find-map : {X Y : Type 0} (p : Y → Bool) (f : X → Y) (xs : List X) → find p (map f xs) ≡ option_map f (find (λ x. p (f x)) xs)
find-map p f [] = refl
find-map p f (x ∷ xs) = by_test (p (f x)) (find-map p f xs)
  where
    by_test : (b : Bool) → find p (map f xs) ≡ option_map f (find (λ y. p (f y)) xs) → cond b (Some (f x)) (find p (map f xs)) ≡ option_map f (cond b (Some x) (find (λ y. p (f y)) xs))
    by_test true later = refl
    by_test false later = later

-- it is the first of some, or that of those that follow
pub find_here : {Y : Type 0} (p : Y → Bool) (xs ys : List Y) (y : Y) → find p xs ≡ Some y → find p (xs ++ ys) ≡ Some y
find_here p [] ys y e = absurd (let never : None ≡ Some y = e in cc)
find_here p (x ∷ xs) ys y e = by_test (p x) e (find_here p xs ys y)
  where
    by_test : (b : Bool) → cond b (Some x) (find p xs) ≡ Some y → (find p xs ≡ Some y → find p (xs ++ ys) ≡ Some y) → cond b (Some x) (find p (xs ++ ys)) ≡ Some y
    by_test true e later = e
    by_test false e later = later e

pub find_later : {Y : Type 0} (p : Y → Bool) (xs ys : List Y) → find p xs ≡ None → find p (xs ++ ys) ≡ find p ys
find_later p [] ys e = refl
find_later p (x ∷ xs) ys e = by_test (p x) e (find_later p xs ys)
  where
    by_test : (b : Bool) → cond b (Some x) (find p xs) ≡ None → (find p xs ≡ None → find p (xs ++ ys) ≡ find p ys) → cond b (Some x) (find p (xs ++ ys)) ≡ find p ys
    by_test true e later = absurd (let never : Some x ≡ None = e in cc)
    by_test false e later = later e

-- among the items made of a list that is gone through: what the item at hand makes has it, or those of the items left have
module _ {X Y Z : Type 0} (p : Z → Bool) (f : Y → List Z) (g : X → Y) (xs : List X) (i : ℕ) (x : X) (at : drop i xs ≡ x ∷ drop (i + 1) xs) where
  pub found_now : (z : Z) → find p (f (g x)) ≡ Some z → (whole : Option Z) → find p (flat_map f (map g (drop i xs))) ≡ whole → Some z ≡ whole
  found_now z e whole so_far =
      sym (find_here p (f (g x)) (flat_map f (map g (drop (i + 1) xs))) z e)
      ∙ ap (λ l. find p (flat_map f (map g l))) (sym at)
      ∙ so_far

  pub not_yet : find p (f (g x)) ≡ None → (whole : Option Z) → find p (flat_map f (map g (drop i xs))) ≡ whole → find p (flat_map f (map g (drop (i + 1) xs))) ≡ whole
  not_yet e whole so_far =
      sym (find_later p (f (g x)) (flat_map f (map g (drop (i + 1) xs))) e)
      ∙ ap (λ l. find p (flat_map f (map g l))) (sym at)
      ∙ so_far
