-- Items that are picked from a list, in their order: of numbers that ascend they ascend.
use Rattle.std.proofs.Common.{◌≡◌, ℕ, suc, ◌<◌, Bool, true, false, cond, not, List, [], ◌∷◌, ◌++◌, map, filter, Contains, ◌⊎◌, inl, inr, sym, ap, ◌∙◌, subst, arith}
use Rattle.std.specs.Prelude.{if◌then◌else◌}
use Rattle.std.specs.List.{AllPairs, flat_map, list_any}
use Rattle.go_tree.specs.Tree.{Tree, kind_of}
use Rattle.go_module.specs.declared.inner.Inner.{Inner}
use Rattle.go_module.specs.declared.inner.Inner.TheVariants.{All, First, Last, BehindFirst, BehindNames, BehindKey, TypesAlone, Neither}
use Rattle.go_module.specs.Names.Inner.{is_name_kind, is_tag_kind, is_named_param, is_unnamed_param, first_alone, last_alone, all_behind, behind_key, inner_by}
use Rattle.go_module.proofs.MemberLemmas.{cons_cases, contains_head, contains_none, contains_tail}
use Rattle.go_model.proofs.FlatLemmas.{map_contains}

pub data Picked {X : Type 0} : List X → List X → Type 0 where
  none : {ys : List X} → Picked [] ys
  keep : {x : X} {xs ys : List X} → Picked xs ys → Picked (x ∷ xs) (x ∷ ys)
  skip : {y : X} {xs ys : List X} → Picked xs ys → Picked xs (y ∷ ys)

pub picked_self : {X : Type 0} (xs : List X) → Picked xs xs
picked_self [] = none
picked_self (x ∷ xs) = keep (picked_self xs)

-- from the one or the other of two lists, and from both
pub picked_behind : {X : Type 0} {us vs : List X} (ys : List X) → Picked us vs → Picked us (ys ++ vs)
picked_behind [] p = p
picked_behind (y ∷ ys) p = skip (picked_behind ys p)

pub picked_both : {X : Type 0} {xs ys us vs : List X} → Picked xs ys → Picked us vs → Picked (xs ++ us) (ys ++ vs)
picked_both {ys = ys} none q = picked_behind ys q
picked_both (keep p) q = keep (picked_both p q)
picked_both (skip p) q = skip (picked_both p q)

pub picked_front : {X : Type 0} {xs ys : List X} (vs : List X) → Picked xs ys → Picked xs (ys ++ vs)
picked_front vs none = none
picked_front vs (keep p) = keep (picked_front vs p)
picked_front vs (skip p) = skip (picked_front vs p)

-- from what is picked
pub picked_through : {X : Type 0} {xs ys zs : List X} → Picked ys zs → Picked xs ys → Picked xs zs
picked_through none p = from_none p
  where
    from_none : {X : Type 0} {xs zs : List X} → Picked xs [] → Picked xs zs
    from_none none = none
picked_through (skip q) p = skip (picked_through q p)
picked_through (keep q) none = none
picked_through (keep q) (keep p) = keep (picked_through q p)
picked_through (keep q) (skip p) = skip (picked_through q p)

pub picked_flat : {X Y : Type 0} (f : X → List Y) {xs ys : List X} → Picked xs ys → Picked (flat_map f xs) (flat_map f ys)
picked_flat f none = none
picked_flat f (keep {x = x} p) = picked_both (picked_self (f x)) (picked_flat f p)
picked_flat f (skip {y = y} p) = picked_behind (f y) (picked_flat f p)

contains_by : {X : Type 0} (x z : X) (xs ys : List X) → (x ≡ z) ⊎ Contains xs z → (Contains xs z → Contains ys z) → Contains (x ∷ ys) z
contains_by x z xs ys (inl here) later = contains_head x ys z here
contains_by x z xs ys (inr there) later = contains_tail x ys z (later there)

pub picked_contains : {X : Type 0} {xs ys : List X} (z : X) → Picked xs ys → Contains xs z → Contains ys z
picked_contains z none h = absurd (contains_none z h)
picked_contains z (keep {x = x} {xs = xs} {ys = ys} p) h = contains_by x z xs ys (cons_cases x xs z h) (picked_contains z p)
picked_contains z (skip {y = y} {ys = ys} p) h = contains_tail y ys z (picked_contains z p h)

pub picked_filter : {X : Type 0} (test : X → Bool) (xs : List X) → Picked (filter test xs) xs
picked_filter test [] = none
picked_filter test (x ∷ xs) = by_test (test x) (picked_filter test xs)
  where
    by_test : (b : Bool) → Picked (filter test xs) xs → Picked (cond b (x ∷ filter test xs) (filter test xs)) (x ∷ xs)
    by_test true rest = keep rest
    by_test false rest = skip rest

-- the parts of a node in which identifiers occur are picked from its parts
module _ {X : Type 0} (tree : X → Tree) where
  pub picked_first : (xs : List X) → Picked (first_alone tree xs) xs
  picked_first [] = none
  picked_first (x ∷ xs) = keep none

  pub picked_last : (xs : List X) → Picked (last_alone tree xs) xs
  picked_last [] = none
  picked_last (x ∷ []) = picked_self (x ∷ [])
  picked_last (x ∷ (y ∷ ys)) = skip (picked_last (y ∷ ys))

  picked_later : (xs : List X) → Picked (all_behind tree xs) xs
  picked_later [] = none
  picked_later (x ∷ xs) = skip (picked_self xs)

  key_by : (x : X) (xs : List X) (b : Bool) → Picked (if b then xs else x ∷ xs) (x ∷ xs)
  key_by x xs true = skip (picked_self xs)
  key_by x xs false = picked_self (x ∷ xs)

  picked_key : (xs : List X) → Picked (behind_key tree xs) xs
  picked_key [] = none
  picked_key (x ∷ xs) = key_by x xs (is_name_kind (kind_of (tree x)))

  types_by : (xs ys : List X) (b : Bool) → Picked ys xs → Picked (if b then ys else xs) xs
  types_by xs ys true fewer = fewer
  types_by xs ys false fewer = picked_self xs

  pub picked_inner : (inner : Inner) (xs : List X) → Picked (inner_by tree inner xs) xs
  picked_inner All xs = picked_self xs
  picked_inner First xs = picked_first xs
  picked_inner Last xs = picked_last xs
  picked_inner BehindFirst xs = picked_later xs
  picked_inner BehindNames xs = picked_through (picked_filter (λ x. not (is_tag_kind (kind_of (tree x)))) xs) (picked_last (filter (λ x. not (is_tag_kind (kind_of (tree x)))) xs))
  picked_inner BehindKey xs = picked_key xs
  picked_inner TypesAlone xs = types_by xs (filter (λ x. not (is_unnamed_param (kind_of (tree x)))) xs) (list_any (λ x. is_named_param (kind_of (tree x))) xs) (picked_filter (λ x. not (is_unnamed_param (kind_of (tree x)))) xs)
  picked_inner Neither xs = none

-- numbers of which each is below all later ones
abbrev pub Ascending : List ℕ → Type 0
Ascending [] = Unit {0}
Ascending (x ∷ xs) = ((y : ℕ) → Contains xs y → x < y) × Ascending xs

pub pairs_ascend : (xs : List ℕ) → AllPairs (λ (a b : ℕ). a < b) xs → Ascending xs
pairs_ascend [] h = tt
pairs_ascend (x ∷ xs) h = (
  λ y c. subst (λ (n : ℕ). x < n) c.2 (h 0 (suc c.0) y (omega arith) (let lt = c.1 in omega (arith, lt))),
  pairs_ascend xs (λ i j d lt within. h (suc i) (suc j) d (omega (arith, lt)) (omega (arith, within))),
)

pub picked_ascend : {xs ys : List ℕ} → Picked xs ys → Ascending ys → Ascending xs
picked_ascend none a = tt
picked_ascend (keep p) a = (λ z h. a.0 z (picked_contains z p h), picked_ascend p a.1)
picked_ascend (skip p) a = picked_ascend p a.1

-- so of what has ascending numbers one has a number
module _ {X : Type 0} (number : X → ℕ) where
  pub one_numbered : (xs : List X) (x y : X) → Ascending (map number xs) → Contains xs x → Contains xs y → number x ≡ number y → x ≡ y
  one_numbered [] x y a h i e = absurd (contains_none x h)
  one_numbered (z ∷ xs) x y a h i e = by_cases (cons_cases z xs x h) (cons_cases z xs y i) (one_numbered xs x y a.1)
    where
      by_cases : (z ≡ x) ⊎ Contains xs x → (z ≡ y) ⊎ Contains xs y → (Contains xs x → Contains xs y → number x ≡ number y → x ≡ y) → x ≡ y
      by_cases (inl left) (inl right) later = sym left ∙ right
      by_cases (inl left) (inr right) later = absurd (let lt = a.0 (number y) (map_contains number xs y right) in let same = ap number left in omega (arith, lt, same, e))
      by_cases (inr left) (inl right) later = absurd (let lt = a.0 (number x) (map_contains number xs x left) in let same = ap number right in omega (arith, lt, same, e))
      by_cases (inr left) (inr right) later = later left right e
