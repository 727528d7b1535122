-- What holds of each element of lists that are joined, kept in part, put in order or paired.
use Rattle.std.proofs.Common.{◌≡◌, Bool, true, false, cond, List, [], ◌∷◌, ◌++◌, map, filter, refl, sym, ◌∙◌}
use Rattle.std.specs.List.{AllByRecursion, flat_map}
use Rattle.go_judge.specs.Types.SetsFit.{by_name, is_before, put_by_name}
use Rattle.go_judge.specs.Types.TypeSets.{MethodData}

module _ {X : Type 0} (P : X → Type 0) where
  pub every_both : (xs ys : List X) → AllByRecursion P xs → AllByRecursion P ys → AllByRecursion P (xs ++ ys)
  every_both [] ys here there = there
  every_both (x ∷ xs) ys here there = (here.0, every_both xs ys here.1 there)

  pub every_first : (xs ys : List X) → AllByRecursion P (xs ++ ys) → AllByRecursion P xs
  every_first [] ys all = tt
  every_first (x ∷ xs) ys all = (all.0, every_first xs ys all.1)

  pub every_second : (xs ys : List X) → AllByRecursion P (xs ++ ys) → AllByRecursion P ys
  every_second [] ys all = all
  every_second (x ∷ xs) ys all = every_second xs ys all.1

  pub every_kept : (p : X → Bool) (xs : List X) → AllByRecursion P (filter p xs) → AllByRecursion (λ x. p x ≡ true → P x) xs
  every_kept p [] all = tt
  every_kept p (x ∷ xs) all = at (p x) refl (every_kept p xs) all
    where
      at : (b : Bool) → p x ≡ b → (AllByRecursion P (filter p xs) → AllByRecursion (λ x. p x ≡ true → P x) xs) → AllByRecursion P (cond b (x ∷ filter p xs) (filter p xs)) → AllByRecursion (λ x. p x ≡ true → P x) (x ∷ xs)
      at true e rest all = (λ kept. all.0, rest all.1)
      at false e rest all = (λ kept. absurd (let wrong : false ≡ true = sym e ∙ kept in cc wrong), rest all)

  pub every_to_keep : (p : X → Bool) (xs : List X) → AllByRecursion (λ x. p x ≡ true → P x) xs → AllByRecursion P (filter p xs)
  every_to_keep p [] all = tt
  every_to_keep p (x ∷ xs) all = at (p x) refl all.0 (every_to_keep p xs all.1)
    where
      at : (b : Bool) → p x ≡ b → (p x ≡ true → P x) → AllByRecursion P (filter p xs) → AllByRecursion P (cond b (x ∷ filter p xs) (filter p xs))
      at true e here rest = (here e, rest)
      at false e here rest = rest

module _ {X Y : Type 0} (P : Y → Type 0) where
  pub every_of_map : (f : X → Y) (xs : List X) → AllByRecursion P (map f xs) → AllByRecursion (λ x. P (f x)) xs
  every_of_map f [] all = tt
  every_of_map f (x ∷ xs) all = (all.0, every_of_map f xs all.1)

  pub every_to_map : (f : X → Y) (xs : List X) → AllByRecursion (λ x. P (f x)) xs → AllByRecursion P (map f xs)
  every_to_map f [] all = tt
  every_to_map f (x ∷ xs) all = (all.0, every_to_map f xs all.1)

  pub every_of_flat : (f : X → List Y) (xs : List X) → AllByRecursion P (flat_map f xs) → AllByRecursion (λ x. AllByRecursion P (f x)) xs
  every_of_flat f [] all = tt
  every_of_flat f (x ∷ xs) all = (every_first P (f x) (flat_map f xs) all, every_of_flat f xs (every_second P (f x) (flat_map f xs) all))

  pub every_to_flat : (f : X → List Y) (xs : List X) → AllByRecursion (λ x. AllByRecursion P (f x)) xs → AllByRecursion P (flat_map f xs)
  every_to_flat f [] all = tt
  every_to_flat f (x ∷ xs) all = every_both P (f x) (flat_map f xs) all.0 (every_to_flat f xs all.1)

module _ {X : Type 0} (P Q : X → Type 0) where
  pub every_so : ((x : X) → P x → Q x) → (xs : List X) → AllByRecursion P xs → AllByRecursion Q xs
  every_so so [] all = tt
  every_so so (x ∷ xs) all = (so x all.0, every_so so xs all.1)

  pub every_with : (xs : List X) → AllByRecursion P xs → AllByRecursion Q xs → AllByRecursion (λ x. P x × Q x) xs
  every_with [] here there = tt
  every_with (x ∷ xs) here there = ((here.0, there.0), every_with xs here.1 there.1)

-- each of the ones with each of the others is each of the others with each of the ones
module _ {X Y : Type 0} (R : X → Y → Type 0) where
  of_none : (ys : List Y) → AllByRecursion (λ (y : Y). AllByRecursion (λ (x : X). R x y) []) ys
  of_none [] = tt
  of_none (y ∷ ys) = (tt, of_none ys)

  of_more : (x : X) (xs : List X) (ys : List Y) → AllByRecursion (R x) ys → AllByRecursion (λ (y : Y). AllByRecursion (λ (x : X). R x y) xs) ys → AllByRecursion (λ (y : Y). AllByRecursion (λ (x : X). R x y) (x ∷ xs)) ys
  of_more x xs [] here there = tt
  of_more x xs (y ∷ ys) here there = ((here.0, there.0), of_more x xs ys here.1 there.1)

  pub every_swap : (xs : List X) (ys : List Y) → AllByRecursion (λ (x : X). AllByRecursion (R x) ys) xs → AllByRecursion (λ (y : Y). AllByRecursion (λ (x : X). R x y) xs) ys
  every_swap [] ys all = of_none ys
  every_swap (x ∷ xs) ys all = of_more x xs ys all.0 (every_swap xs ys all.1)

-- METHODS IN ORDER

module _ (P : MethodData → Type 0) where
  of_put : (m : MethodData) (ns : List MethodData) → AllByRecursion P (put_by_name m ns) → AllByRecursion P (m ∷ ns)
  of_put m [] all = all
  of_put m (n ∷ ns) all = at (is_before n m) (of_put m ns) all
    where
      at : (b : Bool) → (AllByRecursion P (put_by_name m ns) → AllByRecursion P (m ∷ ns)) → AllByRecursion P (cond b (n ∷ put_by_name m ns) (m ∷ n ∷ ns)) → AllByRecursion P (m ∷ n ∷ ns)
      at true rest all = let parts = rest all.1 in (parts.0, (all.0, parts.1))
      at false rest all = all

  to_put : (m : MethodData) (ns : List MethodData) → AllByRecursion P (m ∷ ns) → AllByRecursion P (put_by_name m ns)
  to_put m [] all = all
  to_put m (n ∷ ns) all = elim (is_before n m) as (λ (b : Bool). AllByRecursion P (cond b (n ∷ put_by_name m ns) (m ∷ n ∷ ns))) [
    | true ↦ (all.1.0, to_put m ns (all.0, all.1.1))
    | false ↦ all
  ]

  pub every_of_names : (ms : List MethodData) → AllByRecursion P (by_name ms) → AllByRecursion P ms
  every_of_names [] all = tt
  every_of_names (m ∷ ms) all = let parts = of_put m (by_name ms) all in (parts.0, every_of_names ms parts.1)

  pub every_to_names : (ms : List MethodData) → AllByRecursion P ms → AllByRecursion P (by_name ms)
  every_to_names [] all = tt
  every_to_names (m ∷ ms) all = to_put m (by_name ms) (all.0, every_to_names ms all.1)
