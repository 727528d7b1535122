-- The places of declarations by the numbers of their objects.
use Rattle.std.proofs.Common.{◌≡◌, ℕ, zero, suc, ◌+◌, ◌-◌, ◌<◌, Bool, true, false, cond, not, Option, Some, None, List, [], ◌∷◌, length, map, drop, get_or, refl, sym, ap, ◌∙◌, subst, arith}
use Rattle.std.proofs.lemmas.Bool.{eq-eqb, ne_eqb}
use Rattle.std.proofs.lemmas.Bool.Decides.{nat_tests}
use Rattle.std.specs.Prelude.{nat_lt, position, slice_get}
use Rattle.std.specs.List.{position_or_len}
use Rattle.std.specs.Map.{lookup}
use Rattle.std.specs.Option.{option_map}
use Rattle.indexmap.specs.IndexMap.{insert_entry}
use Rattle.go_base.specs.declared.ids.ObjId.{ObjId}
use Rattle.go_module.specs.Names.Declarations.{Declaration, number_of, numbers_of}
use Rattle.go_module.specs.Scopes.{same_object}
use Rattle.go_values.specs.Declared.{declared_as}
use Rattle.go_decl.specs.Places.{place_among}
use Rattle.go_judge.proofs.EntryLemmas.{found_behind, same_is}

-- the first place at which a test passes, element by element
later : (c : Bool) (n : ℕ) → cond c (Some (suc n)) None ≡ option_map suc (cond c (Some n) None)
later true n = refl
later false n = refl

first_by : (b : Bool) (n l : ℕ) → cond (nat_lt (cond (not b) (1 + n) 0) (suc l)) (Some (cond (not b) (1 + n) 0)) None ≡ cond b (Some 0) (option_map suc (cond (nat_lt n l) (Some n) None))
first_by true n l = let some : nat_lt 0 (suc l) ≡ true = grind (arith, nat_tests) in ap (λ t. cond t (Some 0) None) some
first_by false n l = by_test (nat_lt n l) refl
  where
    by_test : (c : Bool) → nat_lt n l ≡ c → cond (nat_lt (1 + n) (suc l)) (Some (1 + n)) None ≡ option_map suc (cond (nat_lt n l) (Some n) None)
    by_test true at =
        let there : nat_lt (1 + n) (suc l) ≡ true = grind (arith, nat_tests) in
        let next : 1 + n ≡ suc n = omega arith in
        ap (λ t. cond t (Some (1 + n)) None) there ∙ ap Some next ∙ sym (ap (λ t. option_map suc (cond t (Some n) None)) at)
    by_test false at =
        let none : nat_lt (1 + n) (suc l) ≡ false = grind (arith, nat_tests) in
        ap (λ t. cond t (Some (1 + n)) None) none ∙ sym (ap (λ t. option_map suc (cond t (Some n) None)) at)

first_place : {X : Type 0} (p : X → Bool) (x : X) (xs : List X) → position p (x ∷ xs) ≡ cond (p x) (Some 0) (option_map suc (position p xs))
first_place p x xs = first_by (p x) (position_or_len p xs) (length xs)

-- the place of an object among declarations, of which the first has the place n
abbrev pub place_from : ℕ → List ObjId → ObjId → Option ℕ
place_from n numbers d = option_map (λ i. n + i) (place_among numbers d)

pub place_from_none : (n : ℕ) (d : ObjId) → place_from n [] d ≡ None
place_from_none n d = refl

moved : (n : ℕ) (o : Option ℕ) → option_map (λ i. n + i) (option_map suc o) ≡ option_map (λ i. suc n + i) o
moved n None = refl
moved n (Some i) = ap Some (let e : n + suc i ≡ suc n + i = omega arith in e)

from_by : (b : Bool) (n : ℕ) (o : Option ℕ) → option_map (λ i. n + i) (cond b (Some 0) (option_map suc o)) ≡ cond b (Some n) (option_map (λ i. suc n + i) o)
from_by true n o = ap Some (let e : n + 0 ≡ n = omega arith in e)
from_by false n o = moved n o

pub place_from_more : (n : ℕ) (x : ObjId) (xs : List ObjId) (d : ObjId) → place_from n (x ∷ xs) d ≡ cond (same_object d x) (Some n) (place_from (suc n) xs d)
place_from_more n x xs d = ap (option_map (λ i. n + i)) (first_place (same_object d) x xs) ∙ from_by (same_object d x) n (place_among xs d)

from_zero : (o : Option ℕ) → option_map (λ i. 0 + i) o ≡ o
from_zero None = refl
from_zero (Some i) = ap Some (let e : 0 + i ≡ i = omega arith in e)

pub place_from_start : (numbers : List ObjId) (d : ObjId) → place_from 0 numbers d ≡ place_among numbers d
place_from_start numbers d = from_zero (place_among numbers d)

module _ {X Y : Type 0} (g : X → Y) (f : Y → ObjId) where
  -- what stands from the last place on
  from_last : (xs : List X) (i : ℕ) (x : X) → i < length xs → x ≡ get_or xs i x → map f (map g (drop i xs)) ≡ f (g x) ∷ map f (map g (drop (suc i) xs))
  from_last [] i x lt at = absurd (omega (arith, lt))
  from_last (y ∷ ys) zero x lt at = ap (λ z. f (g z) ∷ map f (map g ys)) (sym at)
  from_last (y ∷ ys) (suc i) x lt at = from_last ys i x (omega (arith, lt)) at

  -- one more declaration, from the last to the first
  pub one_more_place : (xs : List X) (n : ℕ) (x : X) (es new : List (ObjId × ℕ)) → 0 < n → n - 1 < length xs → x ≡ get_or xs (n - 1) x
      → new ≡ insert_entry same_object es (f (g x)) (n - 1)
      → ((d : ObjId) → lookup (same_object d) es ≡ place_from n (map f (map g (drop n xs))) d)
      → (d : ObjId) → lookup (same_object d) new ≡ place_from (n - 1) (map f (map g (drop (n - 1) xs))) d
  one_more_place xs n x es new some lt at added so_far d =
      let after : suc (n - 1) ≡ n = omega (arith, some) in
      let rest = map f (map g (drop n xs)) in
      let split : map f (map g (drop (n - 1) xs)) ≡ f (g x) ∷ rest = from_last xs (n - 1) x lt at ∙ ap (λ k. f (g x) ∷ map f (map g (drop k xs))) after in
      ap (lookup (same_object d)) added
      ∙ found_behind d es (f (g x)) (n - 1)
      ∙ ap (cond (same_object d (f (g x))) (Some (n - 1))) (so_far d ∙ ap (λ k. place_from k rest d) (sym after))
      ∙ sym (place_from_more (n - 1) (f (g x)) rest d)
      ∙ ap (λ numbers. place_from (n - 1) numbers d) (sym split)

-- the declaration at a place is the one that its number names
pub record IsPlaced (declarations : List Declaration) (d : ObjId) (place : ℕ) : Type 0 where
  pub declaration : Declaration
  pub at : slice_get declarations place ≡ Some declaration
  pub declared : declared_as declarations d.0 ≡ Some declaration
  pub number : number_of declaration ≡ d

placed_first : (x : Declaration) (xs : List Declaration) (d : ObjId) → place_among (numbers_of (x ∷ xs)) d ≡ cond (same_object d (number_of x)) (Some 0) (option_map suc (place_among (numbers_of xs) d))
placed_first x xs d = first_place (same_object d) (number_of x) (numbers_of xs)

declared_here : (x : Declaration) (xs : List Declaration) (d : ObjId) → same_object d (number_of x) ≡ true → declared_as (x ∷ xs) d.0 ≡ Some x
declared_here x xs d e =
    let same : (number_of x).0 ≡ d.0 = ap (λ (k : ObjId). k.0) (sym (same_is d (number_of x) e)) in
    ap (λ b. cond b (Some x) (declared_as xs d.0)) (eq-eqb (number_of x).0 d.0 same)

declared_later : (x : Declaration) (xs : List Declaration) (d : ObjId) → same_object d (number_of x) ≡ false → declared_as (x ∷ xs) d.0 ≡ declared_as xs d.0
declared_later x xs d e =
    let ne : (number_of x).0 ≡ d.0 → ⊥ = λ same. (let yes : same_object d (number_of x) ≡ true = grind (arith, nat_tests) in cc (yes, e)) in
    ap (λ b. cond b (Some x) (declared_as xs d.0)) (ne_eqb (number_of x).0 d.0 ne)

pub place_declared : (declarations : List Declaration) (d : ObjId) (place : ℕ) → place_among (numbers_of declarations) d ≡ Some place → IsPlaced declarations d place
place_declared [] d place e = absurd (let never : None ≡ Some place = e in cc)
place_declared (x ∷ xs) d place e = by_test (place_declared xs d) (same_object d (number_of x)) refl
  where
    next : ((q : ℕ) → place_among (numbers_of xs) d ≡ Some q → IsPlaced xs d q) → (o : Option ℕ) → place_among (numbers_of xs) d ≡ o → option_map suc o ≡ Some place → same_object d (number_of x) ≡ false → IsPlaced (x ∷ xs) d place
    next later None at is other = absurd (let never : None ≡ Some place = is in cc)
    next later (Some q) at is other =
        let there = later q at in
        let same : suc q ≡ place = (let both : Some (suc q) ≡ Some place = is in cc) in
        subst (IsPlaced (x ∷ xs) d) same (record {
          declaration = there.declaration;
          at = there.at;
          declared = declared_later x xs d other ∙ there.declared;
          number = there.number;
        })

    by_test : ((q : ℕ) → place_among (numbers_of xs) d ≡ Some q → IsPlaced xs d q) → (b : Bool) → same_object d (number_of x) ≡ b → IsPlaced (x ∷ xs) d place
    by_test later true here =
        let first : Some 0 ≡ Some place = sym (placed_first x xs d ∙ ap (λ c. cond c (Some 0) (option_map suc (place_among (numbers_of xs) d))) here) ∙ e in
        let same : 0 ≡ place = cc in
        subst (IsPlaced (x ∷ xs) d) same (record {
          declaration = x;
          at = refl;
          declared = declared_here x xs d here;
          number = sym (same_is d (number_of x) here);
        })
    by_test later false other =
        next later (place_among (numbers_of xs) d) refl (sym (placed_first x xs d ∙ ap (λ c. cond c (Some 0) (option_map suc (place_among (numbers_of xs) d))) other) ∙ e) other

-- a number that is declared has a place
pub record HasPlace (declarations : List Declaration) (d : ObjId) : Type 0 where
  pub place : ℕ
  pub is : place_among (numbers_of declarations) d ≡ Some place
  pub within : place < length declarations

pub declared_place : (declarations : List Declaration) (d : ObjId) (declaration : Declaration) → declared_as declarations d.0 ≡ Some declaration → HasPlace declarations d
declared_place [] d declaration e = absurd (let never : None ≡ Some declaration = e in cc)
declared_place (x ∷ xs) d declaration e = by_test (declared_place xs d declaration) (same_object d (number_of x)) refl
  where
    by_test : (declared_as xs d.0 ≡ Some declaration → HasPlace xs d) → (b : Bool) → same_object d (number_of x) ≡ b → HasPlace (x ∷ xs) d
    by_test later true here = record {
      place = 0;
      is = placed_first x xs d ∙ ap (λ c. cond c (Some 0) (option_map suc (place_among (numbers_of xs) d))) here;
      within = omega arith;
    }
    by_test later false other =
        let there = later (sym (declared_later x xs d other) ∙ e) in
        record {
          place = suc there.place;
          is = placed_first x xs d ∙ ap (λ c. cond c (Some 0) (option_map suc (place_among (numbers_of xs) d))) other ∙ ap (option_map suc) there.is;
          within = omega (arith, there.within);
        }
