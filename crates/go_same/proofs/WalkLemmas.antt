-- How a walk over two types goes on, from their layers to the types in these.
use Rattle.std.proofs.Common.{◌≡◌, ◌&&◌, Bool, true, false, List, [], ◌∷◌, ◌++◌, map, length, refl, sym, ap, ◌∙◌, append_assoc, length-append, arith}
use Rattle.std.proofs.lemmas.List.{map-append}
use Rattle.std.specs.List.{flat_map}
use Rattle.go_term.specs.Types.{Head, TypeData, Parts, made, more_parts, parts_of}
use Rattle.go_term.specs.declared.term.Term.{Term}
use Rattle.go_judge.specs.Types.Heads.{same_head}
use Rattle.go_judge.specs.Types.TypeIdentity.{are_interfaces, interfaces_in, interfaces_in_all}
use Rattle.go_judge.specs.Types.TypeSets.{plain, plain_all}
use Rattle.go_same.specs.declared.layer.Homes.{Homes}
use Rattle.go_same.specs.Layers.{home_by, same_heads, all_same_heads}

-- a test of any two at the same places of two lists, which are as long
abbrev pub all_by : (TypeData → TypeData → Bool) → List TypeData → List TypeData → Bool
all_by walk [] [] = true
all_by walk (t ∷ ts) (u ∷ us) = walk t u && all_by walk ts us
all_by walk ts us = false

abbrev pub all_pairs : List TypeData → List TypeData → List (TypeData × TypeData)
all_pairs (t ∷ ts) (u ∷ us) = interfaces_in t u ++ all_pairs ts us
all_pairs ts us = []

-- a walk that compares heads, where these are not both those of interfaces, and goes on with the parts
pub record Walks (homes : Homes) (walk : TypeData → TypeData → Bool) (all : Parts → Parts → Bool) : Type 0 where
  pub nodes : (h g : Head) (ts us : Parts) → are_interfaces h g ≡ false → walk (made h ts) (made g us) ≡ (same_head (home_by homes) h g && all ts us)
  pub lists : (ts us : List TypeData) → all (parts_of ts) (parts_of us) ≡ all_by walk ts us

-- types with the types in them: a walk is answered by what the types are but for those in them, and by these
pub record Opens {A : Type 0} (walk skim : TypeData → TypeData → Bool) (whole blank : A → TypeData) (within : A → List TypeData) : Type 0 where
  pub test : (a b : A) → walk (whole a) (whole b) ≡ (skim (blank a) (blank b) && all_by walk (within a) (within b))
  pub long : (a b : A) → skim (blank a) (blank b) ≡ true → length (within a) ≡ length (within b)
  pub pairs : (a b : A) → skim (blank a) (blank b) ≡ true → interfaces_in (whole a) (whole b) ≡ all_pairs (within a) (within b)

pub and_assoc : (a b c : Bool) → ((a && b) && c) ≡ (a && (b && c))
and_assoc true b c = refl
and_assoc false b c = refl

and_false : (b : Bool) → (b && false) ≡ false
and_false true = refl
and_false false = refl

pub and_true : (b : Bool) → (b && true) ≡ b
and_true true = refl
and_true false = refl

and_first : (a b : Bool) → (a && b) ≡ true → a ≡ true
and_first true b e = refl
and_first false b e = e

pub and_second : (a b : Bool) → (a && b) ≡ true → b ≡ true
and_second true b e = e
and_second false b e = cc

turned : (s f s' f' w : Bool) → (s ≡ true → w ≡ (f && f')) → ((s && f) && (s' && f')) ≡ ((s && s') && w)
turned false f s' f' w e = refl
turned true f false f' w e = and_false f
turned true f true f' w e = sym (e refl)

all_by-append : (walk : TypeData → TypeData → Bool) (ts us ts' us' : List TypeData) → length ts ≡ length us → all_by walk (ts ++ ts') (us ++ us') ≡ (all_by walk ts us && all_by walk ts' us')
all_by-append walk [] [] ts' us' e = refl
all_by-append walk [] (u ∷ us) ts' us' e = absurd (omega arith)
all_by-append walk (t ∷ ts) [] ts' us' e = absurd (omega arith)
all_by-append walk (t ∷ ts) (u ∷ us) ts' us' e = ap (λ b. walk t u && b) (all_by-append walk ts us ts' us' (omega arith)) ∙ sym (and_assoc (walk t u) (all_by walk ts us) (all_by walk ts' us'))

all_pairs-append : (ts us ts' us' : List TypeData) → length ts ≡ length us → all_pairs (ts ++ ts') (us ++ us') ≡ all_pairs ts us ++ all_pairs ts' us'
all_pairs-append [] [] ts' us' e = refl
all_pairs-append [] (u ∷ us) ts' us' e = absurd (omega arith)
all_pairs-append (t ∷ ts) [] ts' us' e = absurd (omega arith)
all_pairs-append (t ∷ ts) (u ∷ us) ts' us' e = ap (λ b. interfaces_in t u ++ b) (all_pairs-append ts us ts' us' (omega arith)) ∙ sym (append_assoc (interfaces_in t u) (all_pairs ts us) (all_pairs ts' us'))

-- of several
module _ {A : Type 0} (walk skim : TypeData → TypeData → Bool) (whole blank : A → TypeData) (within : A → List TypeData) (opens : Opens walk skim whole blank within) where
  each_long : (xs ys : List A) → all_by skim (map blank xs) (map blank ys) ≡ true → length (flat_map within xs) ≡ length (flat_map within ys)
  each_long [] [] e = refl
  each_long [] (b ∷ ys) e = cc
  each_long (a ∷ xs) [] e = cc
  each_long (a ∷ xs) (b ∷ ys) e =
      let one = opens.long a b (and_first (skim (blank a) (blank b)) _ e) in
      let rest = each_long xs ys (and_second (skim (blank a) (blank b)) _ e) in
      simp length-append (omega arith)

  each_test : (xs ys : List A) → all_by walk (map whole xs) (map whole ys) ≡ (all_by skim (map blank xs) (map blank ys) && all_by walk (flat_map within xs) (flat_map within ys))
  each_test [] [] = refl
  each_test [] (b ∷ ys) = refl
  each_test (a ∷ xs) [] = refl
  each_test (a ∷ xs) (b ∷ ys) =
      ap (λ x. x && all_by walk (map whole xs) (map whole ys)) (opens.test a b)
      ∙ ap (λ x. (skim (blank a) (blank b) && all_by walk (within a) (within b)) && x) (each_test xs ys)
      ∙ turned (skim (blank a) (blank b)) (all_by walk (within a) (within b)) (all_by skim (map blank xs) (map blank ys)) (all_by walk (flat_map within xs) (flat_map within ys)) _
      (λ e. all_by-append walk (within a) (within b) (flat_map within xs) (flat_map within ys) (opens.long a b e))

  each_pairs : (xs ys : List A) → all_by skim (map blank xs) (map blank ys) ≡ true → all_pairs (map whole xs) (map whole ys) ≡ all_pairs (flat_map within xs) (flat_map within ys)
  each_pairs [] [] e = refl
  each_pairs [] (b ∷ ys) e = refl
  each_pairs (a ∷ xs) [] e = cc
  each_pairs (a ∷ xs) (b ∷ ys) e =
      let first = and_first (skim (blank a) (blank b)) _ e in
      ap (λ x. x ++ all_pairs (map whole xs) (map whole ys)) (opens.pairs a b first)
      ∙ ap (λ x. all_pairs (within a) (within b) ++ x) (each_pairs xs ys (and_second (skim (blank a) (blank b)) _ e))
      ∙ sym (all_pairs-append (within a) (within b) (flat_map within xs) (flat_map within ys) (opens.long a b first))

pub plain_each : {A : Type 0} (tree : A → TypeData) (xs : List A) → plain_all (parts_of (map tree xs)) ≡ parts_of (map (λ x. plain (tree x)) xs)
plain_each tree [] = refl
plain_each tree (x ∷ xs) = ap (more_parts (plain (tree x))) (plain_each tree xs)

pub one_each : {A : Type 0} (view : A → TypeData) (xs : List A) → flat_map (λ x. view x ∷ []) xs ≡ map view xs
one_each view [] = refl
one_each view (x ∷ xs) = ap (λ l. view x ∷ l) (one_each view xs)

pub pairs_lists : (ts us : List TypeData) → interfaces_in_all (parts_of ts) (parts_of us) ≡ all_pairs ts us
pairs_lists [] [] = refl
pairs_lists [] (u ∷ us) = refl
pairs_lists (t ∷ ts) [] = refl
pairs_lists (t ∷ ts) (u ∷ us) = ap (λ l. interfaces_in t u ++ l) (pairs_lists ts us)

pub skims : (homes : Homes) (ts us : List TypeData) → all_same_heads homes (parts_of ts) (parts_of us) ≡ all_by (same_heads homes) ts us
skims homes [] [] = refl
skims homes [] (u ∷ us) = refl
skims homes (t ∷ ts) [] = refl
skims homes (t ∷ ts) (u ∷ us) = ap (λ b. same_heads homes t u && b) (skims homes ts us)

pub flat_map_map : {A : Type 0} (f : A → List Term) (view : Term → TypeData) (xs : List A) → flat_map (λ x. map view (f x)) xs ≡ map view (flat_map f xs)
flat_map_map f view [] = refl
flat_map_map f view (x ∷ xs) = ap (λ l. map view (f x) ++ l) (flat_map_map f view xs) ∙ sym (map-append view (f x) (flat_map f xs))

-- a head over several
module _ (homes : Homes) (walk : TypeData → TypeData → Bool) (all : Parts → Parts → Bool) (law : Walks homes walk all) {A : Type 0} (whole blank : A → TypeData) (within : A → List TypeData) (opens : Opens walk (same_heads homes) whole blank within) where
  pub listed : (h g : Head) (xs ys : List A)
      → (here : (ts us : Parts) → walk (made h ts) (made g us) ≡ (same_head (home_by homes) h g && all ts us))
      → walk (made h (parts_of (map whole xs))) (made g (parts_of (map whole ys)))
      ≡ ((same_head (home_by homes) h g && all_same_heads homes (parts_of (map blank xs)) (parts_of (map blank ys))) && all_by walk (flat_map within xs) (flat_map within ys))
  listed h g xs ys here =
      let head = same_head (home_by homes) h g in
      let rest = all_by walk (flat_map within xs) (flat_map within ys) in
      here (parts_of (map whole xs)) (parts_of (map whole ys))
      ∙ ap (λ b. head && b) (law.lists (map whole xs) (map whole ys) ∙ each_test walk (same_heads homes) whole blank within opens xs ys ∙ ap (λ b. b && rest) (sym (skims homes (map blank xs) (map blank ys))))
      ∙ sym (and_assoc head _ rest)

  pub listed_long : (xs ys : List A) → all_same_heads homes (parts_of (map blank xs)) (parts_of (map blank ys)) ≡ true → length (flat_map within xs) ≡ length (flat_map within ys)
  listed_long xs ys e = each_long walk (same_heads homes) whole blank within opens xs ys (sym (skims homes (map blank xs) (map blank ys)) ∙ e)

  pub listed_pairs : (xs ys : List A) → all_same_heads homes (parts_of (map blank xs)) (parts_of (map blank ys)) ≡ true
      → interfaces_in_all (parts_of (map whole xs)) (parts_of (map whole ys)) ≡ all_pairs (flat_map within xs) (flat_map within ys)
  listed_pairs xs ys e = pairs_lists (map whole xs) (map whole ys) ∙ each_pairs walk (same_heads homes) whole blank within opens xs ys (sym (skims homes (map blank xs) (map blank ys)) ∙ e)
