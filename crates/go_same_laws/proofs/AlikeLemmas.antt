-- Types beside themselves and the other way round: heads that are the same, types that are alike and that fit, and the
-- interfaces at the same places.
use Rattle.std.proofs.Common.{◌≡◌, ℕ, Bool, true, false, ◌&&◌, if◌then◌else◌, List, [], ◌∷◌, ◌++◌, map, refl, sym, ◌∙◌}
use Rattle.std.proofs.lemmas.Cmp.{nat_eq_equiv, nat_list_eq_equiv}
use Rattle.std.proofs.lemmas.List.{map-append}
use Rattle.go_term.specs.Types.{Head, basic, pointer, slice, array, map_type, channel, function, struct_type, interface_type, tuple, named, param, bound, list, field, method, union, union_term, FieldHead, MethodHead, TypeData, Parts, made, no_parts, more_parts}
use Rattle.go_judge.specs.Types.Heads.{alike, all_alike, basic_number, dir_number, same_field, same_head, same_method, same_name, same_truth}
use Rattle.go_judge.specs.Types.TypeIdentity.{all_fit, are_interfaces, fit, interfaces_in, interfaces_in_all}
use Rattle.go_judge.specs.Types.TypeSets.{home_of}

-- HEADS

truth_itself : (a : Bool) → same_truth a a ≡ true
truth_itself true = refl
truth_itself false = refl

pub truth_swap : (a b : Bool) → same_truth a b ≡ same_truth b a
truth_swap true true = refl
truth_swap true false = refl
truth_swap false true = refl
truth_swap false false = refl

module _ (home : List ℕ → List ℕ → List ℕ) where
  name_itself : (a p : List ℕ) → same_name home a p a p ≡ true
  name_itself a p = λ i. nat_list_eq_equiv.refl a i && nat_list_eq_equiv.refl (home a p) i

  name_swap : (a p b q : List ℕ) → same_name home a p b q ≡ same_name home b q a p
  name_swap a p b q = λ i. nat_list_eq_equiv.symm a b i && nat_list_eq_equiv.symm (home a p) (home b q) i

  field_itself : (f : FieldHead) → same_field home f f ≡ true
  field_itself f = λ i. name_itself f.name f.«package» i && truth_itself f.embedded i && nat_list_eq_equiv.refl f.tag i

  field_swap : (f g : FieldHead) → same_field home f g ≡ same_field home g f
  field_swap f g = λ i. name_swap f.name f.«package» g.name g.«package» i && truth_swap f.embedded g.embedded i && nat_list_eq_equiv.symm f.tag g.tag i

  method_itself : (m : MethodHead) → same_method home m m ≡ true
  method_itself m = λ i. name_itself m.name m.«package» i && truth_itself m.variadic i

  method_swap : (m n : MethodHead) → same_method home m n ≡ same_method home n m
  method_swap m n = λ i. name_swap m.name m.«package» n.name n.«package» i && truth_swap m.variadic n.variadic i

  pub head_itself : (h : Head) → same_head home h h ≡ true
  head_itself (basic a) = nat_eq_equiv.refl (basic_number a)
  head_itself pointer = refl
  head_itself slice = refl
  head_itself (array n) = nat_eq_equiv.refl n
  head_itself map_type = refl
  head_itself (channel d) = nat_eq_equiv.refl (dir_number d)
  head_itself (function v) = truth_itself v
  head_itself struct_type = refl
  head_itself interface_type = refl
  head_itself tuple = refl
  head_itself (named d) = nat_eq_equiv.refl d.0
  head_itself (param d i) = λ k. nat_eq_equiv.refl d.0 k && nat_eq_equiv.refl i k
  head_itself (bound i) = nat_eq_equiv.refl i
  head_itself list = refl
  head_itself (field f) = field_itself f
  head_itself (method m) = method_itself m
  head_itself union = refl
  head_itself (union_term t) = truth_itself t

  head_swap : (h g : Head) → same_head home h g ≡ same_head home g h
  head_swap (basic a) (basic b) = nat_eq_equiv.symm (basic_number a) (basic_number b)
  head_swap (array m) (array n) = nat_eq_equiv.symm m n
  head_swap (channel d) (channel e) = nat_eq_equiv.symm (dir_number d) (dir_number e)
  head_swap (function v) (function w) = truth_swap v w
  head_swap (named d) (named e) = nat_eq_equiv.symm d.0 e.0
  head_swap (param d i) (param e j) = λ k. nat_eq_equiv.symm d.0 e.0 k && nat_eq_equiv.symm i j k
  head_swap (bound i) (bound j) = nat_eq_equiv.symm i j
  head_swap (field f) (field g) = field_swap f g
  head_swap (method m) (method n) = method_swap m n
  head_swap (union_term t) (union_term u) = truth_swap t u
  head_swap pointer pointer = refl
  head_swap slice slice = refl
  head_swap map_type map_type = refl
  head_swap struct_type struct_type = refl
  head_swap interface_type interface_type = refl
  head_swap tuple tuple = refl
  head_swap list list = refl
  head_swap union union = refl
  head_swap h g = refl

are_swap : (h g : Head) → are_interfaces h g ≡ are_interfaces g h
are_swap pointer pointer = refl
are_swap slice slice = refl
are_swap map_type map_type = refl
are_swap struct_type struct_type = refl
are_swap interface_type interface_type = refl
are_swap tuple tuple = refl
are_swap list list = refl
are_swap union union = refl
are_swap (basic a) (basic b) = refl
are_swap (array a) (array b) = refl
are_swap (channel a) (channel b) = refl
are_swap (function a) (function b) = refl
are_swap (named a) (named b) = refl
are_swap (param a i) (param b j) = refl
are_swap (bound a) (bound b) = refl
are_swap (field a) (field b) = refl
are_swap (method a) (method b) = refl
are_swap (union_term a) (union_term b) = refl
are_swap h g = refl

-- TYPES

abbrev pub near : List ℕ → List ℕ → List ℕ
near name home = home

mutual
  pub alike_itself : (t : TypeData) → alike t t ≡ true
  alike_itself (made h ts) = λ i. head_itself near h i && all_alike_itself ts i

  all_alike_itself : (ts : Parts) → all_alike ts ts ≡ true
  all_alike_itself no_parts = refl
  all_alike_itself (more_parts t ts) = λ i. alike_itself t i && all_alike_itself ts i

mutual
  pub alike_swap : (t u : TypeData) → alike t u ≡ alike u t
  alike_swap (made h ts) (made g us) = λ i. head_swap near h g i && all_alike_swap ts us i

  all_alike_swap : (ts us : Parts) → all_alike ts us ≡ all_alike us ts
  all_alike_swap no_parts no_parts = refl
  all_alike_swap no_parts (more_parts u us) = refl
  all_alike_swap (more_parts t ts) no_parts = refl
  all_alike_swap (more_parts t ts) (more_parts u us) = λ i. alike_swap t u i && all_alike_swap ts us i

either_true : (b c : Bool) → c ≡ true → (if b then true else c) ≡ true
either_true true c e = refl
either_true false c e = e

mutual
  pub fit_itself : (t : TypeData) → fit t t ≡ true
  fit_itself (made h ts) =
      let one = head_itself home_of h in
      let rest = all_fit_itself ts in
      either_true (are_interfaces h h) (same_head home_of h h && all_fit ts ts) (λ i. one i && rest i)

  all_fit_itself : (ts : Parts) → all_fit ts ts ≡ true
  all_fit_itself no_parts = refl
  all_fit_itself (more_parts t ts) = λ i. fit_itself t i && all_fit_itself ts i

mutual
  pub fit_swap : (t u : TypeData) → fit t u ≡ fit u t
  fit_swap (made h ts) (made g us) = λ i. if are_swap h g i then true else (head_swap home_of h g i && all_fit_swap ts us i)

  all_fit_swap : (ts us : Parts) → all_fit ts us ≡ all_fit us ts
  all_fit_swap no_parts no_parts = refl
  all_fit_swap no_parts (more_parts u us) = refl
  all_fit_swap (more_parts t ts) no_parts = refl
  all_fit_swap (more_parts t ts) (more_parts u us) = λ i. fit_swap t u i && all_fit_swap ts us i

-- INTERFACES AT THE SAME PLACES

abbrev pub swapped : TypeData × TypeData → TypeData × TypeData
swapped p = (p.1, p.0)

map_if : {X Y : Type 0} (f : X → Y) (b : Bool) (xs ys : List X) → map f (if b then xs else ys) ≡ (if b then map f xs else map f ys)
map_if f true xs ys = refl
map_if f false xs ys = refl

mutual
  pub interfaces_swap : (t u : TypeData) → interfaces_in u t ≡ map swapped (interfaces_in t u)
  interfaces_swap (made h ts) (made g us) =
      let rest = interfaces_swap_all ts us in
      (λ i. if are_swap g h i then (made g us, made h ts) ∷ [] else rest i)
      ∙ sym (map_if swapped (are_interfaces h g) ((made h ts, made g us) ∷ []) (interfaces_in_all ts us))

  interfaces_swap_all : (ts us : Parts) → interfaces_in_all us ts ≡ map swapped (interfaces_in_all ts us)
  interfaces_swap_all no_parts no_parts = refl
  interfaces_swap_all no_parts (more_parts u us) = refl
  interfaces_swap_all (more_parts t ts) no_parts = refl
  interfaces_swap_all (more_parts t ts) (more_parts u us) =
      let one = interfaces_swap t u in
      let rest = interfaces_swap_all ts us in
      (λ i. one i ++ rest i) ∙ sym (map-append swapped (interfaces_in t u) (interfaces_in_all ts us))
