-- Types up to what identity sees: types that are alike are equal but for objects, and what fits chains.
use Rattle.std.proofs.Common.{◌≡◌, ℕ, Bool, true, false, ◌&&◌, if◌then◌else◌, List, [], ◌∷◌, get_or, refl, sym, ap, ◌∙◌}
use Rattle.std.specs.Prelude.{◌==◌}
use Rattle.std.proofs.lemmas.Bool.{eqb-true}
use Rattle.std.proofs.lemmas.Slice.Eq.{bytes_eq-Decides}
use Rattle.go_base.specs.declared.ids.ObjId.{ObjId}
use Rattle.go_module.specs.Modules.Paths.{same_text}
use Rattle.go_term.specs.declared.basic.Basic.{Basic}
use Rattle.go_term.specs.declared.basic.Basic.TheVariants as B
use Rattle.go_term.specs.declared.term.Dir.{Dir}
use Rattle.go_term.specs.declared.term.Dir.TheVariants as D
use Rattle.go_term.specs.Types.{Head, basic, pointer, slice, array, map_type, channel, function, struct_type, interface_type, tuple, named, param, bound, list, field, method, union, union_term, FieldHead, MethodHead, TypeData, Parts, made, no_parts, more_parts}
use Rattle.go_judge.specs.Types.Heads.{alike, all_alike, basic_number, dir_number, same_field, same_head, same_method, same_name, same_truth}
use Rattle.go_judge.specs.Types.TypeIdentity.{all_fit, are_interfaces, fit}
use Rattle.go_judge.specs.Types.TypeSets.{home_of, no_object, plain, plain_all, without_object}
use Rattle.go_same_laws.proofs.AlikeLemmas.{head_itself, near}

-- TESTS

pub both_true : (a b : Bool) → (a && b) ≡ true → (a ≡ true) × (b ≡ true)
both_true true b e = (refl, e)
both_true false b e = absurd (let wrong : false ≡ true = e in cc wrong)

pub true_both : (a b : Bool) → a ≡ true → b ≡ true → (a && b) ≡ true
true_both a b e f = λ i. e i && f i

pub truths : (a b : Bool) → same_truth a b ≡ true → a ≡ b
truths true b e = sym e
truths false false e = refl
truths false true e = absurd (let wrong : false ≡ true = e in cc wrong)

text_is : (a b : List ℕ) → same_text a b ≡ true → a ≡ b
text_is a b e = (bytes_eq-Decides a b).0 e

-- HEADS

basic_at : ℕ → Basic
basic_at n = get_or (B.Bool ∷ B.Comparable ∷ B.Complex64 ∷ B.Complex128 ∷ B.Error ∷ B.Float32 ∷ B.Float64 ∷ B.Int ∷ B.Int8 ∷ B.Int16 ∷ B.Int32 ∷ B.Int64 ∷ B.String ∷ B.Uint ∷ B.Uint8 ∷ B.Uint16 ∷ B.Uint32 ∷ B.Uint64 ∷ B.Uintptr ∷ B.UntypedBool ∷ B.UntypedInt ∷ B.UntypedRune ∷ B.UntypedString ∷ B.UntypedNil ∷ []) n B.Bool

at_basic : (b : Basic) → basic_at (basic_number b) ≡ b
unfolding basic_at
at_basic B.Bool = refl
at_basic B.Comparable = refl
at_basic B.Complex64 = refl
at_basic B.Complex128 = refl
at_basic B.Error = refl
at_basic B.Float32 = refl
at_basic B.Float64 = refl
at_basic B.Int = refl
at_basic B.Int8 = refl
at_basic B.Int16 = refl
at_basic B.Int32 = refl
at_basic B.Int64 = refl
at_basic B.String = refl
at_basic B.Uint = refl
at_basic B.Uint8 = refl
at_basic B.Uint16 = refl
at_basic B.Uint32 = refl
at_basic B.Uint64 = refl
at_basic B.Uintptr = refl
at_basic B.UntypedBool = refl
at_basic B.UntypedInt = refl
at_basic B.UntypedRune = refl
at_basic B.UntypedString = refl
at_basic B.UntypedNil = refl

dir_at : ℕ → Dir
dir_at n = get_or (D.Both ∷ D.Receive ∷ D.Send ∷ []) n D.Both

at_dir : (d : Dir) → dir_at (dir_number d) ≡ d
unfolding dir_at
at_dir D.Both = refl
at_dir D.Receive = refl
at_dir D.Send = refl

basic_is : (a b : Basic) → (basic_number a == basic_number b) ≡ true → a ≡ b
basic_is a b e = sym (at_basic a) ∙ ap basic_at (eqb-true (basic_number a) (basic_number b) e) ∙ at_basic b

dir_is : (a b : Dir) → (dir_number a == dir_number b) ≡ true → a ≡ b
dir_is a b e = sym (at_dir a) ∙ ap dir_at (eqb-true (dir_number a) (dir_number b) e) ∙ at_dir b

object_is : (d e : ObjId) → (d.0 == e.0) ≡ true → d ≡ e
object_is d e f = let same = eqb-true d.0 e.0 f in λ i. record { 0 = same i }

-- what the test of heads sees of one
abbrev pub seen : (List ℕ → List ℕ → List ℕ) → Head → Head
seen home (field f) = field (record f { object = no_object; «package» = home f.name f.«package» })
seen home (method m) = method (record m { object = no_object; «package» = home m.name m.«package» })
seen home head = head

module _ (home : List ℕ → List ℕ → List ℕ) where
  name_is : (a p b q : List ℕ) → same_name home a p b q ≡ true → (a ≡ b) × (home a p ≡ home b q)
  name_is a p b q e = let parts = both_true (same_text a b) (same_text (home a p) (home b q)) e in (text_is a b parts.0, text_is (home a p) (home b q) parts.1)

  field_is : (f g : FieldHead) → same_field home f g ≡ true → seen home (field f) ≡ seen home (field g)
  field_is f g e =
      let outer = both_true (same_name home f.name f.«package» g.name g.«package» && same_truth f.embedded g.embedded) (same_text f.tag g.tag) e in
      let inner = both_true (same_name home f.name f.«package» g.name g.«package») (same_truth f.embedded g.embedded) outer.0 in
      let names = name_is f.name f.«package» g.name g.«package» inner.0 in
      let embedded = truths f.embedded g.embedded inner.1 in
      let tags = text_is f.tag g.tag outer.1 in
      λ i. field (record { object = no_object; name = names.0 i; «package» = names.1 i; embedded = embedded i; tag = tags i })

  method_is : (m n : MethodHead) → same_method home m n ≡ true → seen home (method m) ≡ seen home (method n)
  method_is m n e =
      let parts = both_true (same_name home m.name m.«package» n.name n.«package») (same_truth m.variadic n.variadic) e in
      let names = name_is m.name m.«package» n.name n.«package» parts.0 in
      let variadic = truths m.variadic n.variadic parts.1 in
      λ i. method (record { object = no_object; name = names.0 i; «package» = names.1 i; variadic = variadic i })

  param_is : (d e : ObjId) (i j : ℕ) → ((d.0 == e.0) && (i == j)) ≡ true → param d i ≡ param e j
  param_is d e i j told =
      let parts = both_true (d.0 == e.0) (i == j) told in
      let objects = object_is d e parts.0 in
      let places = eqb-true i j parts.1 in
      λ k. param (objects k) (places k)

  -- heads that are the same look the same
  head_seen : (h g : Head) → same_head home h g ≡ true → seen home h ≡ seen home g
  head_seen (basic a) (basic b) e = ap basic (basic_is a b e)
  head_seen pointer pointer e = refl
  head_seen slice slice e = refl
  head_seen (array m) (array n) e = ap array (eqb-true m n e)
  head_seen map_type map_type e = refl
  head_seen (channel d) (channel c) e = ap channel (dir_is d c e)
  head_seen (function v) (function w) e = ap function (truths v w e)
  head_seen struct_type struct_type e = refl
  head_seen interface_type interface_type e = refl
  head_seen tuple tuple e = refl
  head_seen (named d) (named c) e = ap named (object_is d c e)
  head_seen (param d i) (param c j) e = param_is d c i j e
  head_seen (bound i) (bound j) e = ap bound (eqb-true i j e)
  head_seen list list e = refl
  head_seen (field f) (field g) e = field_is f g e
  head_seen (method m) (method n) e = method_is m n e
  head_seen union union e = refl
  head_seen (union_term t) (union_term u) e = ap union_term (truths t u e)
  head_seen h g e = absurd (never e)
    where
      never : false ≡ true → ⊥
      never wrong = cc wrong

  head_by_seen : (h g : Head) → same_head home h g ≡ same_head near (seen home h) (seen home g)
  head_by_seen (basic a) (basic b) = refl
  head_by_seen pointer pointer = refl
  head_by_seen slice slice = refl
  head_by_seen (array m) (array n) = refl
  head_by_seen map_type map_type = refl
  head_by_seen (channel d) (channel c) = refl
  head_by_seen (function v) (function w) = refl
  head_by_seen struct_type struct_type = refl
  head_by_seen interface_type interface_type = refl
  head_by_seen tuple tuple = refl
  head_by_seen (named d) (named c) = refl
  head_by_seen (param d i) (param c j) = refl
  head_by_seen (bound i) (bound j) = refl
  head_by_seen list list = refl
  head_by_seen (field f) (field g) = refl
  head_by_seen (method m) (method n) = refl
  head_by_seen union union = refl
  head_by_seen (union_term t) (union_term u) = refl
  head_by_seen h g = refl

  head_chain : (h g k : Head) → same_head home h g ≡ true → same_head home g k ≡ true → same_head home h k ≡ true
  head_chain h g k e f =
      head_by_seen h k
      ∙ ap (λ x. same_head near x (seen home k)) (head_seen h g e ∙ head_seen g k f)
      ∙ head_itself near (seen home k)

-- TYPES THAT ARE ALIKE

seen_near : (h : Head) → seen near h ≡ without_object h
seen_near (field f) = refl
seen_near (method m) = refl
seen_near h = refl

mutual
  pub plain_alike : (t u : TypeData) → alike t u ≡ true → plain t ≡ plain u
  plain_alike (made h ts) (made g us) e =
      let parts = both_true (same_head near h g) (all_alike ts us) e in
      let heads : without_object h ≡ without_object g = sym (seen_near h) ∙ head_seen near h g parts.0 ∙ seen_near g in
      let rest = plain_all_alike ts us parts.1 in
      λ i. made (heads i) (rest i)

  plain_all_alike : (ts us : Parts) → all_alike ts us ≡ true → plain_all ts ≡ plain_all us
  plain_all_alike no_parts no_parts e = refl
  plain_all_alike no_parts (more_parts u us) e = absurd (let wrong : false ≡ true = e in cc wrong)
  plain_all_alike (more_parts t ts) no_parts e = absurd (let wrong : false ≡ true = e in cc wrong)
  plain_all_alike (more_parts t ts) (more_parts u us) e =
      let parts = both_true (alike t u) (all_alike ts us) e in
      let one = plain_alike t u parts.0 in
      let rest = plain_all_alike ts us parts.1 in
      λ i. more_parts (one i) (rest i)

object_twice : (h : Head) → without_object (without_object h) ≡ without_object h
object_twice (field f) = refl
object_twice (method m) = refl
object_twice h = refl

mutual
  pub plain_twice : (t : TypeData) → plain (plain t) ≡ plain t
  plain_twice (made h ts) = let rest = plain_all_twice ts in λ i. made (object_twice h i) (rest i)

  plain_all_twice : (ts : Parts) → plain_all (plain_all ts) ≡ plain_all ts
  plain_all_twice no_parts = refl
  plain_all_twice (more_parts t ts) = let one = plain_twice t in let rest = plain_all_twice ts in λ i. more_parts (one i) (rest i)

-- a type without objects of fields and methods
abbrev pub IsPlain : TypeData → Type 0
IsPlain t = plain t ≡ t

abbrev pub ArePlain : Parts → Type 0
ArePlain ts = plain_all ts ≡ ts

same_parts : (h g : Head) (ts us : Parts) → made h ts ≡ made g us → ts ≡ us
same_parts h g ts us e = cc e

pub parts_plain : (h : Head) (ts : Parts) → IsPlain (made h ts) → ArePlain ts
parts_plain h ts e = same_parts (without_object h) h (plain_all ts) ts e

same_first : (t u : TypeData) (ts us : Parts) → more_parts t ts ≡ more_parts u us → t ≡ u
same_first t u ts us e = cc e

same_rest : (t u : TypeData) (ts us : Parts) → more_parts t ts ≡ more_parts u us → ts ≡ us
same_rest t u ts us e = cc e

pub first_plain : (t : TypeData) (ts : Parts) → ArePlain (more_parts t ts) → IsPlain t
first_plain t ts e = same_first (plain t) t (plain_all ts) ts e

pub rest_plain : (t : TypeData) (ts : Parts) → ArePlain (more_parts t ts) → ArePlain ts
rest_plain t ts e = same_rest (plain t) t (plain_all ts) ts e

pub plain_is : (t u : TypeData) → IsPlain t → IsPlain u → alike t u ≡ true → t ≡ u
plain_is t u e f told = sym e ∙ plain_alike t u told ∙ f

-- TYPES THAT FIT

abbrev pub is_literal : Head → Bool
is_literal interface_type = true
is_literal h = false

pub are_literals : (h g : Head) → are_interfaces h g ≡ (is_literal h && is_literal g)
are_literals interface_type interface_type = refl
are_literals h g = refl

literal_seen : (h : Head) → is_literal (seen home_of h) ≡ is_literal h
literal_seen interface_type = refl
literal_seen (field f) = refl
literal_seen (method m) = refl
literal_seen h = refl

heads_literal : (h g : Head) → same_head home_of h g ≡ true → is_literal h ≡ is_literal g
heads_literal h g e = sym (literal_seen h) ∙ ap is_literal (head_seen home_of h g e) ∙ literal_seen g

-- what it tells of two heads and their parts that they fit: both are interfaces, or neither is and they are the same throughout
pub record Fits (p q heads parts : Bool) : Type 0 where
  pub alike : p ≡ q
  pub same_heads : q ≡ false → heads ≡ true
  pub same_parts : q ≡ false → parts ≡ true

fits_by : (p q heads parts : Bool) → (heads ≡ true → p ≡ q) → (if p && q then true else (heads && parts)) ≡ true → Fits p q heads parts
fits_by true true heads parts so told = record { alike = refl; same_heads = λ e. absurd (let wrong : true ≡ false = e in cc wrong); same_parts = λ e. absurd (let wrong : true ≡ false = e in cc wrong) }
fits_by true false heads parts so told = let both = both_true heads parts told in record { alike = so both.0; same_heads = λ e. both.0; same_parts = λ e. both.1 }
fits_by false q heads parts so told = let both = both_true heads parts told in record { alike = so both.0; same_heads = λ e. both.0; same_parts = λ e. both.1 }

pub fits : (h g : Head) (ts us : Parts) → fit (made h ts) (made g us) ≡ true → Fits (is_literal h) (is_literal g) (same_head home_of h g) (all_fit ts us)
fits h g ts us e =
    fits_by (is_literal h) (is_literal g) (same_head home_of h g) (all_fit ts us) (heads_literal h g)
    (sym (λ i. if are_literals h g i then true else (same_head home_of h g && all_fit ts us)) ∙ e)

literal_is : (h : Head) → is_literal h ≡ true → h ≡ interface_type
literal_is interface_type e = refl
literal_is h e = absurd (let wrong : false ≡ true = e in cc wrong)

-- the heads of types that fit look the same
pub fit_seen : (h g : Head) (ts us : Parts) → fit (made h ts) (made g us) ≡ true → seen home_of h ≡ seen home_of g
fit_seen h g ts us e = at (is_literal g) refl
  where
    parts : Fits (is_literal h) (is_literal g) (same_head home_of h g) (all_fit ts us)
    parts = fits h g ts us e

    at : (b : Bool) → is_literal g ≡ b → seen home_of h ≡ seen home_of g
    at true f = ap (seen home_of) (literal_is h (parts.alike ∙ f) ∙ sym (literal_is g f))
    at false f = head_seen home_of h g (parts.same_heads f)

fit_from : (b p q heads parts : Bool) → p ≡ b → q ≡ b → (b ≡ false → (heads && parts) ≡ true) → (if p && q then true else (heads && parts)) ≡ true
fit_from true p q heads parts e f so = λ i. if e i && f i then true else (heads && parts)
fit_from false p q heads parts e f so = (λ i. if e i && q then true else (heads && parts)) ∙ so refl

mutual
  pub fit_chain : (t u v : TypeData) → fit t u ≡ true → fit u v ≡ true → fit t v ≡ true
  fit_chain (made h ts) (made g us) (made k vs) e f =
      let one = fits h g ts us e in
      let two = fits g k us vs f in
      let parts = all_fit_chain ts us vs in
      (λ i. if are_literals h k i then true else (same_head home_of h k && all_fit ts vs))
      ∙ fit_from (is_literal g) (is_literal h) (is_literal k) (same_head home_of h k) (all_fit ts vs) one.alike (sym two.alike)
      (λ other. true_both (same_head home_of h k) (all_fit ts vs)
      (head_chain home_of h g k (one.same_heads other) (two.same_heads (sym two.alike ∙ other)))
      (parts (one.same_parts other) (two.same_parts (sym two.alike ∙ other))))

  all_fit_chain : (ts us vs : Parts) → all_fit ts us ≡ true → all_fit us vs ≡ true → all_fit ts vs ≡ true
  all_fit_chain no_parts no_parts vs e f = f
  all_fit_chain no_parts (more_parts u us) vs e f = absurd (let wrong : false ≡ true = e in cc wrong)
  all_fit_chain (more_parts t ts) no_parts vs e f = absurd (let wrong : false ≡ true = e in cc wrong)
  all_fit_chain (more_parts t ts) (more_parts u us) no_parts e f = absurd (let wrong : false ≡ true = f in cc wrong)
  all_fit_chain (more_parts t ts) (more_parts u us) (more_parts v vs) e f =
      let one = both_true (fit t u) (all_fit ts us) e in
      let two = both_true (fit u v) (all_fit us vs) f in
      let first = fit_chain t u v one.0 two.0 in
      let rest = all_fit_chain ts us vs one.1 two.1 in
      true_both (fit t v) (all_fit ts vs) first rest
