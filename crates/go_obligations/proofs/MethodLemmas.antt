-- The methods that types have, over a judge that goes on from type to type, and those that an interface gets.
use Rattle.std.proofs.Common.{◌≡◌, ℕ, suc, ◌+◌, ◌<◌, List, [], ◌∷◌, ◌++◌, ◌⊎◌, inl, inr, Contains, drop, get_or, length, map, refl, sym, ap, subst, ◌∙◌, add-one, drop-cons, append_assoc}
use Rattle.std.specs.Prelude.{◌↔◌}
use Rattle.std.specs.List.{AllByRecursion, flat_map}
use Rattle.std.proofs.lemmas.List.{map-append}
use Rattle.std.proofs.lemmas.List.Elements.{Contains-append_cases, Contains-append_left, Contains-append_right}
use Rattle.go_term.specs.Shapes.{elem_tree, shape_tree, union_tree}
use Rattle.go_term.specs.Types.{TypeData, interface_type, list_of, of_list, parts_of}
use Rattle.go_term.specs.declared.shape.ElemShape.{ElemShape}
use Rattle.go_term.specs.declared.shape.ElemShape.TheVariants as E
use Rattle.go_term.specs.declared.shape.FuncShape.{FuncShape}
use Rattle.go_term.specs.declared.shape.Shape.{Shape}
use Rattle.go_term.specs.declared.shape.Shape.TheVariants as S
use Rattle.go_term.specs.declared.shape.UnionShape.{UnionShape}
use Rattle.go_term.specs.declared.term.Term.{Term}
use Rattle.go_module.proofs.MemberLemmas.{cons_cases, contains_head, contains_none, contains_tail}
use Rattle.go_model.specs.Obligations.Embedded.{Embeds}
use Rattle.go_model.specs.Obligations.Methods.{Gets, OwnMethod, method_in, methods_in, signature_of}
use Rattle.go_judge.specs.Headers.{Headers}
use Rattle.go_judge.specs.Types.Own.{AreOwn, AreOwnFunc, IsOwnElem, KeepsTypes}
use Rattle.go_obligations.specs.Methods.{AreOwnMethods, IsOwnMethod, elements_in, method_view}
use Rattle.go_obligations.specs.declared.methods.Method.{Method}

-- LISTS

pub listed : (ts : List TypeData) → list_of (parts_of ts) ≡ ts
listed [] = refl
listed (t ∷ ts) = ap (λ us. t ∷ us) (listed ts)

-- the methods of an interface are those of its elements
pub methods_of_literal : (elems : List TypeData) → methods_in (of_list interface_type elems) ≡ flat_map method_in elems
methods_of_literal elems = ap (flat_map method_in) (listed elems)

flat_cases : {X Y : Type 0} (f : X → List Y) (xs : List X) (y : Y) → Contains (flat_map f xs) y → (x : X) × Contains xs x × Contains (f x) y
flat_cases {X = X} f [] y h = absurd (contains_none y h)
flat_cases {X = X} f (x ∷ xs) y h = by_either (Contains-append_cases (f x) (flat_map f xs) y h) (flat_cases f xs y)
  where
    by_either : Contains (f x) y ⊎ Contains (flat_map f xs) y → (Contains (flat_map f xs) y → (z : X) × Contains xs z × Contains (f z) y) → (z : X) × Contains (x ∷ xs) z × Contains (f z) y
    by_either (inl here) later = (x, contains_head x xs x refl, here)
    by_either (inr there) later = let found = later there in (found.0, contains_tail x xs found.0 found.1, found.2)

flat_contains : {X Y : Type 0} (f : X → List Y) (xs : List X) (x : X) (y : Y) → Contains xs x → Contains (f x) y → Contains (flat_map f xs) y
flat_contains f [] x y h i = absurd (contains_none x h)
flat_contains f (z ∷ xs) x y h i = by_cases (cons_cases z xs x h) (flat_contains f xs x y)
  where
    by_cases : (z ≡ x) ⊎ Contains xs x → (Contains xs x → Contains (f x) y → Contains (flat_map f xs) y) → Contains (flat_map f (z ∷ xs)) y
    by_cases (inl same) later = Contains-append_left (f z) (flat_map f xs) y (subst (λ w. Contains (f w) y) (sym same) i)
    by_cases (inr there) later = Contains-append_right (f z) (flat_map f xs) y (later there i)

-- of each element what follows for one
all_weaker : {A : Type 0} (P Q : A → Type 0) → ((x : A) → P x → Q x) → (xs : List A) → AllByRecursion P xs → AllByRecursion Q xs
all_weaker P Q each [] all = tt
all_weaker P Q each (x ∷ xs) all = (each x all.0, all_weaker P Q each xs all.1)

pub all_pushed : {A : Type 0} (P : A → Type 0) (xs : List A) (x : A) → AllByRecursion P xs → P x → AllByRecursion P (xs ++ x ∷ [])
all_pushed P [] x all is = (is, tt)
all_pushed P (y ∷ ys) x all is = (all.0, all_pushed P ys x all.1 is)

-- two views that agree on each element
map_agrees : {A B : Type 0} (P : A → Type 0) (f g : A → B) → ((x : A) → P x → f x ≡ g x) → (xs : List A) → AllByRecursion P xs → map f xs ≡ map g xs
map_agrees P f g each [] all = refl
map_agrees P f g each (x ∷ xs) all = let one = each x all.0 in let rest = map_agrees P f g each xs all.1 in cc

pub methods_in_shape : (tree : Term → TypeData) (shape : Shape) → flat_map method_in (map (elem_tree tree) (elements_in shape)) ≡ methods_in (shape_tree tree shape)
methods_in_shape tree (S.Interface elems) = sym (methods_of_literal (map (elem_tree tree) elems.items))
methods_in_shape tree (S.Basic b) = refl
methods_in_shape tree (S.Pointer t) = refl
methods_in_shape tree (S.Slice t) = refl
methods_in_shape tree (S.Array n t) = refl
methods_in_shape tree (S.Map k v) = refl
methods_in_shape tree (S.Chan d t) = refl
methods_in_shape tree (S.Func f) = refl
methods_in_shape tree (S.Struct fields) = refl
methods_in_shape tree (S.Tuple ts) = refl
methods_in_shape tree (S.Named d ts) = refl
methods_in_shape tree (S.Param d i) = refl
methods_in_shape tree (S.Bound k) = refl

pub elements_owned : (own : Term → Type 0) (shape : Shape) → AreOwn own shape → AllByRecursion (IsOwnElem own) (elements_in shape)
elements_owned own (S.Interface elems) all = all
elements_owned own (S.Basic b) all = tt
elements_owned own (S.Pointer t) all = tt
elements_owned own (S.Slice t) all = tt
elements_owned own (S.Array n t) all = tt
elements_owned own (S.Map k v) all = tt
elements_owned own (S.Chan d t) all = tt
elements_owned own (S.Func f) all = tt
elements_owned own (S.Struct fields) all = tt
elements_owned own (S.Tuple ts) all = tt
elements_owned own (S.Named d ts) all = tt
elements_owned own (S.Param d i) all = tt
elements_owned own (S.Bound k) all = tt

-- METHODS THAT AN INTERFACE GETS

module _ (headers : Headers) (t : TypeData) (parts : List TypeData) (exact : (u : TypeData) → Contains parts u ↔ Embeds headers t u) (m : OwnMethod) where
  gets : Contains (flat_map methods_in parts) m → Gets headers t m
  gets has = let found = flat_cases methods_in parts m has in record { part = found.0; embeds = (exact found.0).0 found.1; has = found.2 }

  got : Gets headers t m → Contains (flat_map methods_in parts) m
  got g = flat_contains methods_in parts g.part m ((exact g.part).1 g.embeds) g.has

  pub gets_exactly : (views : List OwnMethod) → views ≡ flat_map methods_in parts → Contains views m ↔ Gets headers t m
  gets_exactly views same = (λ has. gets (subst (λ (l : List OwnMethod). Contains l m) same has), λ g. subst (λ (l : List OwnMethod). Contains l m) (sym same) (got g))

-- OVER A JUDGE

module _ {own own' : Term → Type 0} {tree tree' : Term → TypeData} (kept : KeepsTypes own own' tree tree') where
  pub method_kept : (m : Method) → IsOwnMethod own tree m → method_view tree' m ≡ method_view tree m
  method_kept m is = let e = kept.trees m.signature is.0 in cc

  pub method_types : (m : Method) → IsOwnMethod own tree m → IsOwnMethod own' tree' m
  method_types m is = (kept.types m.signature is.0, kept.trees m.signature is.0 ∙ is.1 ∙ ap signature_of (sym (method_kept m is)))

  pub methods_kept : (ms : List Method) → AreOwnMethods own tree ms → map (method_view tree') ms ≡ map (method_view tree) ms
  methods_kept ms all = map_agrees (IsOwnMethod own tree) (method_view tree') (method_view tree) method_kept ms all

  pub methods_types : (ms : List Method) → AreOwnMethods own tree ms → AreOwnMethods own' tree' ms
  methods_types ms all = all_weaker (IsOwnMethod own tree) (IsOwnMethod own' tree') method_types ms all

  types_kept : (ts : List Term) → AllByRecursion own ts → map tree' ts ≡ map tree ts
  types_kept ts all = map_agrees own tree' tree kept.trees ts all

  func_types : (f : FuncShape) → AreOwnFunc own f → AreOwnFunc own' f
  func_types f all = (all_weaker own own' kept.types f.params.items all.0, all_weaker own own' kept.types f.results.items all.1)

  elem_types : (e : ElemShape) → IsOwnElem own e → IsOwnElem own' e
  elem_types (E.Method d name home f) all = func_types f all
  elem_types (E.Union us) all = all_weaker (λ (u : UnionShape). own u.ty) (λ u. own' u.ty) (λ u is. kept.types u.ty is) us.items all

  elem_kept : (e : ElemShape) → IsOwnElem own e → elem_tree tree' e ≡ elem_tree tree e
  elem_kept (E.Method d name home f) all = let params = types_kept f.params.items all.0 in let results = types_kept f.results.items all.1 in cc
  elem_kept (E.Union us) all =
      let terms = map_agrees (λ (u : UnionShape). own u.ty) (union_tree tree') (union_tree tree) (λ u is. (let e = kept.trees u.ty is in cc)) us.items all in cc

  -- a method more, of a type that was just made
  pub method_pushed : (ms : List Method) (m : Method) → AreOwnMethods own tree ms → IsOwnMethod own' tree' m → AreOwnMethods own' tree' (ms ++ m ∷ [])
  method_pushed ms m all is = all_pushed (IsOwnMethod own' tree') ms m (methods_types ms all) is

  pub view_pushed : (ms : List Method) (m : Method) → AreOwnMethods own tree ms → map (method_view tree') (ms ++ m ∷ []) ≡ map (method_view tree) ms ++ method_view tree' m ∷ []
  view_pushed ms m all = map-append (method_view tree') ms (m ∷ []) ∙ ap (λ vs. vs ++ method_view tree' m ∷ []) (methods_kept ms all)

  -- one type of several
  module _ (ts : List Term) (i : ℕ) (t : Term) (lt : i < length ts) (at : t ≡ get_or ts i t) (all : AllByRecursion own (drop i ts)) where
    opens : drop i ts ≡ t ∷ drop (i + 1) ts
    opens = rw add-one (drop-cons ts i t lt ∙ ap (λ l. l ∷ drop (suc i) ts) (sym at))

    split : AllByRecursion own (t ∷ drop (i + 1) ts)
    split = subst (AllByRecursion own) opens all

    pub type_here : own' t
    type_here = kept.types t split.0

    pub types_left : AllByRecursion own (drop (i + 1) ts)
    types_left = split.1

    pub types_step : (before now : List OwnMethod) (whole : List OwnMethod) → now ≡ before ++ methods_in (tree' t) → before ++ flat_map methods_in (map tree (drop i ts)) ≡ whole
        → now ++ flat_map methods_in (map tree (drop (i + 1) ts)) ≡ whole
    types_step before now whole grew left =
        ap (λ l. l ++ flat_map methods_in (map tree (drop (i + 1) ts))) (grew ∙ ap (λ u. before ++ methods_in u) (kept.trees t split.0))
        ∙ append_assoc before (methods_in (tree t)) (flat_map methods_in (map tree (drop (i + 1) ts)))
        ∙ ap (λ l. before ++ flat_map methods_in (map tree l)) (sym opens)
        ∙ left

  -- one element of several
  module _ (rest next : List ElemShape) (e : ElemShape) (opens : rest ≡ e ∷ next) (all : AllByRecursion (IsOwnElem own) rest) where
    both : AllByRecursion (IsOwnElem own) (e ∷ next)
    both = subst (AllByRecursion (IsOwnElem own)) opens all

    pub elem_here : IsOwnElem own' e
    elem_here = elem_types e both.0

    pub elems_left : AllByRecursion (IsOwnElem own) next
    elems_left = both.1

    pub elems_step : (before now : List OwnMethod) (whole : List OwnMethod) → now ≡ before ++ method_in (elem_tree tree' e) → before ++ flat_map method_in (map (elem_tree tree) rest) ≡ whole
        → now ++ flat_map method_in (map (elem_tree tree) next) ≡ whole
    elems_step before now whole grew left =
        ap (λ l. l ++ flat_map method_in (map (elem_tree tree) next)) (grew ∙ ap (λ u. before ++ method_in u) (elem_kept e both.0))
        ∙ append_assoc before (method_in (elem_tree tree e)) (flat_map method_in (map (elem_tree tree) next))
        ∙ ap (λ l. before ++ flat_map method_in (map (elem_tree tree) l)) (sym opens)
        ∙ left
