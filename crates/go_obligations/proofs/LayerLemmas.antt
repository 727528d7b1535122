-- What is read off one layer of a type is what the definitions say of the type.
use Rattle.std.proofs.Common.{◌≡◌, Bool, true, false, Option, Some, None, List, [], ◌∷◌, ◌++◌, map, refl, sym, ap, subst, ◌∙◌}
use Rattle.std.proofs.lemmas.List.{map-append}
use Rattle.std.specs.Prelude.{◌&&◌, ◌||◌, IfSome, if◌then◌else◌, is_some, not, option_to_list}
use Rattle.std.specs.List.{AllByRecursion, flat_map, list_any}
use Rattle.std.specs.Option.{option_map}
use Rattle.go_base.specs.declared.ids.ObjId.{ObjId}
use Rattle.go_term.specs.Shapes.{elem_tree, shape_tree, union_tree}
use Rattle.go_term.specs.Types.{TypeData, basic, list_of, made, named, no_parts, of_list, of_one, parts_of, union, union_term}
use Rattle.go_term.specs.declared.basic.Basic.{Basic}
use Rattle.go_term.specs.declared.basic.Basic.TheVariants as B
use Rattle.go_term.specs.declared.shape.ElemShape.{ElemShape}
use Rattle.go_term.specs.declared.shape.ElemShape.TheVariants as E
use Rattle.go_term.specs.declared.shape.Shape.{Shape}
use Rattle.go_term.specs.declared.shape.Shape.TheVariants as S
use Rattle.go_term.specs.declared.shape.UnionShape.{UnionShape}
use Rattle.go_term.specs.declared.term.Term.{Term}
use Rattle.go_model.specs.Obligations.Constraints.{adds_terms, has_terms, is_parameter}
use Rattle.go_model.specs.Obligations.Embedded.{embedded_in, embedded_type}
use Rattle.go_model.specs.Obligations.Embedding.{embeds_as}
use Rattle.go_judge.specs.Types.Own.{AreOwn, IsOwnElem}
use Rattle.go_judge.specs.Types.TypeSets.{is_interface}
use Rattle.go_obligations.proofs.ListLemmas.{all-joined}
use Rattle.go_obligations.specs.EmbeddedShapes.{adds_shape, embeds_shape, is_interface_basic, is_interface_shape, is_parameter_shape, is_terms, name_alone, name_in, only_type, type_embedded, types_embedded, types_in}

list_back : (ts : List TypeData) → list_of (parts_of ts) ≡ ts
list_back [] = refl
list_back (t ∷ ts) = ap (λ us. t ∷ us) (list_back ts)

map_option : {X Y : Type 0} (f : X → Y) (o : Option X) → option_to_list (option_map f o) ≡ map f (option_to_list o)
map_option f (Some x) = refl
map_option f None = refl

module _ (tree : Term → TypeData) where
  by_tilde : (tilde : Bool) (t : Term) → embedded_type (of_list union (of_one (union_term tilde) (tree t) ∷ [])) ≡ option_map tree (if tilde then None else Some t)
  by_tilde true t = refl
  by_tilde false t = refl

  of_several : (tilde : Bool) (t u : TypeData) (us : List TypeData) → embedded_type (of_list union (of_one (union_term tilde) t ∷ u ∷ us)) ≡ None
  of_several true t u us = refl
  of_several false t u us = refl

  only_embedded : (terms : List UnionShape) → embedded_type (of_list union (map (union_tree tree) terms)) ≡ option_map tree (only_type terms)
  only_embedded [] = refl
  only_embedded (u ∷ []) = by_tilde u.tilde u.ty
  only_embedded (u ∷ v ∷ terms) = of_several u.tilde (tree u.ty) (union_tree tree v) (map (union_tree tree) terms)

  elem_embedded : (elem : ElemShape) → embedded_type (elem_tree tree elem) ≡ option_map tree (type_embedded elem)
  elem_embedded (E.Method d name home f) = refl
  elem_embedded (E.Union terms) = only_embedded terms.items

  elems_embedded : (elems : List ElemShape) → flat_map (λ elem. option_to_list (embedded_type elem)) (map (elem_tree tree) elems) ≡ map tree (types_embedded elems)
  elems_embedded [] = refl
  elems_embedded (e ∷ es) =
      (λ i. option_to_list (elem_embedded e i) ++ elems_embedded es i)
      ∙ ap (λ ts. ts ++ map tree (types_embedded es)) (map_option tree (type_embedded e))
      ∙ sym (map-append tree (option_to_list (type_embedded e)) (types_embedded es))

  -- what it embeds
  pub types-embedded : (shape : Shape) → map tree (types_in shape) ≡ embedded_in (shape_tree tree shape)
  types-embedded (S.Basic b) = refl
  types-embedded (S.Pointer t) = refl
  types-embedded (S.Slice t) = refl
  types-embedded (S.Array n t) = refl
  types-embedded (S.Map k v) = refl
  types-embedded (S.Chan d t) = refl
  types-embedded (S.Func f) = refl
  types-embedded (S.Struct fields) = refl
  types-embedded (S.Interface elems) =
      sym (elems_embedded elems.items)
      ∙ ap (flat_map (λ elem. option_to_list (embedded_type elem))) (sym (list_back (map (elem_tree tree) elems.items)))
  types-embedded (S.Tuple ts) = refl
  types-embedded (S.Named d ts) = refl
  types-embedded (S.Param d i) = refl
  types-embedded (S.Bound k) = refl

  -- whether it adds terms
  elem_has : (elem : ElemShape) → has_terms (elem_tree tree elem) ≡ is_terms elem
  elem_has (E.Method d name home f) = refl
  elem_has (E.Union terms) = ap (λ o. not (is_some o)) (only_embedded terms.items) ∙ ap not (some_mapped (only_type terms.items))
    where
      some_mapped : (o : Option Term) → is_some (option_map tree o) ≡ is_some o
      some_mapped (Some t) = refl
      some_mapped None = refl

  elems_have : (elems : List ElemShape) → list_any has_terms (map (elem_tree tree) elems) ≡ list_any is_terms elems
  elems_have [] = refl
  elems_have (e ∷ es) = λ i. elem_has e i || elems_have es i

  adds_basic_type : (b : Basic) → adds_terms (made (basic b) no_parts) ≡ adds_shape (S.Basic b)
  adds_basic_type B.Error = refl
  adds_basic_type B.Comparable = refl
  adds_basic_type b = refl

  pub terms-added : (shape : Shape) → adds_terms (shape_tree tree shape) ≡ adds_shape shape
  terms-added (S.Basic b) = adds_basic_type b
  terms-added (S.Pointer t) = refl
  terms-added (S.Slice t) = refl
  terms-added (S.Array n t) = refl
  terms-added (S.Map k v) = refl
  terms-added (S.Chan d t) = refl
  terms-added (S.Func f) = refl
  terms-added (S.Struct fields) = refl
  terms-added (S.Interface elems) = ap (list_any has_terms) (list_back (map (elem_tree tree) elems.items)) ∙ elems_have elems.items
  terms-added (S.Tuple ts) = refl
  terms-added (S.Named d ts) = refl
  terms-added (S.Param d i) = refl
  terms-added (S.Bound k) = refl

  -- whether it is a type parameter
  pub parameter-told : (shape : Shape) → is_parameter (shape_tree tree shape) ≡ is_parameter_shape shape
  parameter-told (S.Basic b) = refl
  parameter-told (S.Pointer t) = refl
  parameter-told (S.Slice t) = refl
  parameter-told (S.Array n t) = refl
  parameter-told (S.Map k v) = refl
  parameter-told (S.Chan d t) = refl
  parameter-told (S.Func f) = refl
  parameter-told (S.Struct fields) = refl
  parameter-told (S.Interface elems) = refl
  parameter-told (S.Tuple ts) = refl
  parameter-told (S.Named d ts) = refl
  parameter-told (S.Param d i) = refl
  parameter-told (S.Bound k) = refl

  -- whether it is an interface
  interface_basic : (b : Basic) → is_interface (made (basic b) no_parts) ≡ is_interface_basic b
  interface_basic B.Error = refl
  interface_basic B.Comparable = refl
  interface_basic b = refl

  pub interface-told : (shape : Shape) → is_interface (shape_tree tree shape) ≡ is_interface_shape shape
  interface-told (S.Basic b) = interface_basic b
  interface-told (S.Pointer t) = refl
  interface-told (S.Slice t) = refl
  interface-told (S.Array n t) = refl
  interface-told (S.Map k v) = refl
  interface-told (S.Chan d t) = refl
  interface-told (S.Func f) = refl
  interface-told (S.Struct fields) = refl
  interface-told (S.Interface elems) = refl
  interface-told (S.Tuple ts) = refl
  interface-told (S.Named d ts) = refl
  interface-told (S.Param d i) = refl
  interface-told (S.Bound k) = refl

  -- whether it may be embedded, by its underlying type
  pub embeds-told : (starred : Bool) (shape : Shape) → embeds_as starred (shape_tree tree shape) ≡ embeds_shape starred shape
  embeds-told starred (S.Basic b) = ap (λ yes. not (starred && yes)) (interface_basic b)
  embeds-told starred (S.Pointer t) = refl
  embeds-told starred (S.Slice t) = refl
  embeds-told starred (S.Array n t) = refl
  embeds-told starred (S.Map k v) = refl
  embeds-told starred (S.Chan d t) = refl
  embeds-told starred (S.Func f) = refl
  embeds-told starred (S.Struct fields) = refl
  embeds-told starred (S.Interface elems) = refl
  embeds-told starred (S.Tuple ts) = refl
  embeds-told starred (S.Named d ts) = refl
  embeds-told starred (S.Param d i) = refl
  embeds-told starred (S.Bound k) = refl

  -- the name of a type without type arguments
  alone_named : (d : ObjId) (ts : List Term) → IfSome (name_alone d ts) (λ e. of_list (named d) (map tree ts) ≡ made (named e) no_parts)
  alone_named d [] = refl
  alone_named d (t ∷ ts) = tt

  pub name-told : (shape : Shape) → IfSome (name_in shape) (λ d. shape_tree tree shape ≡ made (named d) no_parts)
  name-told (S.Basic b) = tt
  name-told (S.Pointer t) = tt
  name-told (S.Slice t) = tt
  name-told (S.Array n t) = tt
  name-told (S.Map k v) = tt
  name-told (S.Chan d t) = tt
  name-told (S.Func f) = tt
  name-told (S.Struct fields) = tt
  name-told (S.Interface elems) = tt
  name-told (S.Tuple ts) = tt
  name-told (S.Named d ts) = alone_named d ts.items
  name-told (S.Param d i) = tt
  name-told (S.Bound k) = tt

  pub name-stands : (shape : Shape) (name : Option ObjId) (t : TypeData) → name ≡ name_in shape → t ≡ shape_tree tree shape → IfSome name (λ d. t ≡ made (named d) no_parts)
  name-stands shape name t is stands =
      subst (λ (o : Option ObjId). IfSome o (λ d. t ≡ made (named d) no_parts)) (sym is)
      (subst (λ (u : TypeData). IfSome (name_in shape) (λ d. u ≡ made (named d) no_parts)) (sym stands) (name-told shape))

-- the types that a layer embeds are types of its own
module _ (own : Term → Type 0) where
  only_owned : (terms : List UnionShape) → AllByRecursion (λ (u : UnionShape). own u.ty) terms → AllByRecursion own (option_to_list (only_type terms))
  only_owned [] all = tt
  only_owned (u ∷ []) all = owned_by u.tilde
    where
      owned_by : (tilde : Bool) → AllByRecursion own (option_to_list (if tilde then None else Some u.ty))
      owned_by true = tt
      owned_by false = (all.0, tt)
  only_owned (u ∷ v ∷ terms) all = tt

  elem_owned : (elem : ElemShape) → IsOwnElem own elem → AllByRecursion own (option_to_list (type_embedded elem))
  elem_owned (E.Method d name home f) all = tt
  elem_owned (E.Union terms) all = only_owned terms.items all

  elems_owned : (elems : List ElemShape) → AllByRecursion (IsOwnElem own) elems → AllByRecursion own (types_embedded elems)
  elems_owned [] all = tt
  elems_owned (e ∷ es) all = all-joined own (option_to_list (type_embedded e)) (types_embedded es) (elem_owned e all.0) (elems_owned es all.1)

  pub types-owned : (shape : Shape) → AreOwn own shape → AllByRecursion own (types_in shape)
  types-owned (S.Basic b) all = tt
  types-owned (S.Pointer t) all = tt
  types-owned (S.Slice t) all = tt
  types-owned (S.Array n t) all = tt
  types-owned (S.Map k v) all = tt
  types-owned (S.Chan d t) all = tt
  types-owned (S.Func f) all = tt
  types-owned (S.Struct fields) all = tt
  types-owned (S.Interface elems) all = elems_owned elems.items all
  types-owned (S.Tuple ts) all = tt
  types-owned (S.Named d ts) all = tt
  types-owned (S.Param d i) all = tt
  types-owned (S.Bound k) all = tt
