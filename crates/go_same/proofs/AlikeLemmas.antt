-- Types without the objects of fields and methods: those that are alike are equal.
use Rattle.std.proofs.Common.{◌≡◌, ℕ, Bool, true, false, ◌&&◌, List, [], ◌∷◌, get_or, refl, sym, ap, ◌∙◌}
use Rattle.std.specs.Prelude.{◌==◌}
use Rattle.std.proofs.lemmas.Bool.{eqb-true}
use Rattle.std.proofs.lemmas.Slice.Eq.{bytes_eq-Decides}
use Rattle.go_base.specs.declared.ids.ObjId.{ObjId}
use Rattle.go_term.specs.declared.basic.Basic.{Basic}
use Rattle.go_term.specs.declared.basic.Basic.TheVariants as B
use Rattle.go_term.specs.declared.term.Dir.{Dir}
use Rattle.go_term.specs.declared.term.Dir.TheVariants as D
use Rattle.go_term.specs.Types.{Head, basic, pointer, slice, array, map_type, channel, function, struct_type, interface_type, tuple, named, param, bound, list, field, method, union, union_term, FieldHead, MethodHead, TypeData, Parts, made, no_parts, more_parts}
use Rattle.go_judge.specs.Types.Heads.{alike, all_alike, basic_number, dir_number, same_field, same_head, same_method, same_name, same_truth}
use Rattle.go_judge.specs.Types.TypeSets.{no_object, plain, plain_all, without_object}

both : (a b : Bool) → (a && b) ≡ true → (a ≡ true) × (b ≡ true)
both true b e = (refl, e)
both false b e = absurd (let wrong : false ≡ true = e in cc wrong)

truth_is : (a b : Bool) → same_truth a b ≡ true → a ≡ b
truth_is true b e = sym e
truth_is false false e = refl
truth_is false true e = absurd (let wrong : false ≡ true = e in cc wrong)

-- HEADS

basics : List Basic
basics = B.Bool ∷ B.Comparable ∷ B.Complex64 ∷ B.Complex128 ∷ B.Error ∷ B.Float32 ∷ B.Float64 ∷ B.Int ∷ B.Int8 ∷ B.Int16 ∷ B.Int32 ∷ B.Int64 ∷ B.String ∷ B.Uint ∷ B.Uint8 ∷ B.Uint16 ∷ B.Uint32 ∷ B.Uint64 ∷ B.Uintptr ∷ B.UntypedBool ∷ B.UntypedInt ∷ B.UntypedRune ∷ B.UntypedString ∷ B.UntypedNil ∷ []

-- a basic type stands at its number
basic_stands : (b : Basic) → get_or basics (basic_number b) B.Bool ≡ b
unfolding basics
basic_stands B.Bool = refl
basic_stands B.Comparable = refl
basic_stands B.Complex64 = refl
basic_stands B.Complex128 = refl
basic_stands B.Error = refl
basic_stands B.Float32 = refl
basic_stands B.Float64 = refl
basic_stands B.Int = refl
basic_stands B.Int8 = refl
basic_stands B.Int16 = refl
basic_stands B.Int32 = refl
basic_stands B.Int64 = refl
basic_stands B.String = refl
basic_stands B.Uint = refl
basic_stands B.Uint8 = refl
basic_stands B.Uint16 = refl
basic_stands B.Uint32 = refl
basic_stands B.Uint64 = refl
basic_stands B.Uintptr = refl
basic_stands B.UntypedBool = refl
basic_stands B.UntypedInt = refl
basic_stands B.UntypedRune = refl
basic_stands B.UntypedString = refl
basic_stands B.UntypedNil = refl

basic_is : (a b : Basic) → (basic_number a == basic_number b) ≡ true → a ≡ b
basic_is a b e = sym (basic_stands a) ∙ ap (λ n. get_or basics n B.Bool) (eqb-true (basic_number a) (basic_number b) e) ∙ basic_stands b

dirs : List Dir
dirs = D.Both ∷ D.Receive ∷ D.Send ∷ []

dir_stands : (d : Dir) → get_or dirs (dir_number d) D.Both ≡ d
unfolding dirs
dir_stands D.Both = refl
dir_stands D.Receive = refl
dir_stands D.Send = refl

dir_is : (a b : Dir) → (dir_number a == dir_number b) ≡ true → a ≡ b
dir_is a b e = sym (dir_stands a) ∙ ap (λ n. get_or dirs n D.Both) (eqb-true (dir_number a) (dir_number b) e) ∙ dir_stands b

object_is : (d e : ObjId) → (d.0 == e.0) ≡ true → d ≡ e
object_is d e is = let same = eqb-true d.0 e.0 is in λ i. record { 0 = same i }

-- each name counts with the path of its package
abbrev each : List ℕ → List ℕ → List ℕ
each name home = home

name_is : (a p b q : List ℕ) → same_name each a p b q ≡ true → (a ≡ b) × (p ≡ q)
name_is a p b q e = let parts = both _ _ e in ((bytes_eq-Decides a b).0 parts.0, (bytes_eq-Decides p q).0 parts.1)

field_is : (f g : FieldHead) → same_field each f g ≡ true → without_object (field f) ≡ without_object (field g)
field_is f g e =
    let tags = both (same_name each f.name f.«package» g.name g.«package» && same_truth f.embedded g.embedded) _ e in
    let parts = both (same_name each f.name f.«package» g.name g.«package») _ tags.0 in
    let names = name_is f.name f.«package» g.name g.«package» parts.0 in
    let embedded = truth_is f.embedded g.embedded parts.1 in
    let tag = (bytes_eq-Decides f.tag g.tag).0 tags.1 in
    λ i. field (record { object = no_object; name = names.0 i; «package» = names.1 i; embedded = embedded i; tag = tag i })

method_is : (m n : MethodHead) → same_method each m n ≡ true → without_object (method m) ≡ without_object (method n)
method_is m n e =
    let parts = both (same_name each m.name m.«package» n.name n.«package») _ e in
    let names = name_is m.name m.«package» n.name n.«package» parts.0 in
    let variadic = truth_is m.variadic n.variadic parts.1 in
    λ i. method (record { object = no_object; name = names.0 i; «package» = names.1 i; variadic = variadic i })

head_is : (h g : Head) → same_head each (without_object h) (without_object g) ≡ true → without_object h ≡ without_object g
head_is (basic a) (basic b) e = ap basic (basic_is a b e)
head_is pointer pointer e = refl
head_is slice slice e = refl
head_is (array m) (array n) e = ap array (eqb-true m n e)
head_is map_type map_type e = refl
head_is (channel d) (channel c) e = ap channel (dir_is d c e)
head_is (function v) (function w) e = ap function (truth_is v w e)
head_is struct_type struct_type e = refl
head_is interface_type interface_type e = refl
head_is tuple tuple e = refl
head_is (named d) (named c) e = ap named (object_is d c e)
head_is (param d i) (param c j) e = let parts = both (d.0 == c.0) (i == j) e in let objects = object_is d c parts.0 in let places = eqb-true i j parts.1 in λ k. param (objects k) (places k)
head_is (bound i) (bound j) e = ap bound (eqb-true i j e)
head_is list list e = refl
head_is (field f) (field g) e = field_is f g e
head_is (method m) (method n) e = method_is m n e
head_is union union e = refl
head_is (union_term t) (union_term u) e = ap union_term (truth_is t u e)
head_is h g e = absurd (let wrong : false ≡ true = e in cc wrong)

-- TYPES

mutual
  pub alike_is : (t u : TypeData) → alike (plain t) (plain u) ≡ true → plain t ≡ plain u
  alike_is (made h ts) (made g us) e =
      let parts = both (same_head each (without_object h) (without_object g)) (all_alike (plain_all ts) (plain_all us)) e in
      let head = head_is h g parts.0 in
      let rest = all_alike_are ts us parts.1 in
      λ i. made (head i) (rest i)

  all_alike_are : (ts us : Parts) → all_alike (plain_all ts) (plain_all us) ≡ true → plain_all ts ≡ plain_all us
  all_alike_are no_parts no_parts e = refl
  all_alike_are no_parts (more_parts u us) e = absurd (let wrong : false ≡ true = e in cc wrong)
  all_alike_are (more_parts t ts) no_parts e = absurd (let wrong : false ≡ true = e in cc wrong)
  all_alike_are (more_parts t ts) (more_parts u us) e =
      let parts = both (alike (plain t) (plain u)) (all_alike (plain_all ts) (plain_all us)) e in
      let one = alike_is t u parts.0 in
      let rest = all_alike_are ts us parts.1 in
      λ i. more_parts (one i) (rest i)
