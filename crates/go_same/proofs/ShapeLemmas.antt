-- How a walk over two types that have layers goes on with the types in these.
use Rattle.std.proofs.Common.{◌≡◌, ◌&&◌, Bool, true, false, List, [], ◌∷◌, ◌++◌, map, length, refl, sym, ap, ◌∙◌}
use Rattle.std.proofs.lemmas.List.{append-nil, map-append, length-map}
use Rattle.std.specs.List.{flat_map}
use Rattle.go_term.specs.Shapes.{func_parts, field_tree, union_tree, elem_tree, shape_tree}
use Rattle.go_term.specs.Types.{Head, basic, pointer, slice, array, map_type, channel, function, struct_type, tuple, named, param, bound, list, field, method, union, union_term, interface_type, TypeData, Parts, made, parts_of, of_list}
use Rattle.go_term.specs.declared.term.Term.{Term}
use Rattle.go_term.specs.declared.shape.Shape.{Shape}
use Rattle.go_term.specs.declared.shape.Shape.TheVariants as S
use Rattle.go_term.specs.declared.shape.FuncShape.{FuncShape}
use Rattle.go_term.specs.declared.shape.FieldShape.{FieldShape}
use Rattle.go_term.specs.declared.shape.UnionShape.{UnionShape}
use Rattle.go_term.specs.declared.shape.ElemShape.{ElemShape}
use Rattle.go_term.specs.declared.shape.ElemShape.TheVariants as E
use Rattle.go_judge.specs.Types.Heads.{same_head}
use Rattle.go_judge.specs.Types.TypeIdentity.{interfaces_in, interfaces_in_all}
use Rattle.go_judge.specs.Types.TypeSets.{plain, plain_all}
use Rattle.go_same.specs.declared.layer.Homes.{Homes}
use Rattle.go_same.specs.Layers.{hole, home_by, same_heads, all_same_heads, same_layer, types_in, types_in_func, types_in_elem, both_interfaces}
use Rattle.go_same.proofs.WalkLemmas.{Walks, Opens, all_by, all_pairs, plain_each, one_each, pairs_lists, flat_map_map, listed, listed_long, listed_pairs, and_true, and_second}

module _ (homes : Homes) (walk : TypeData → TypeData → Bool) (all : Parts → Parts → Bool) (law : Walks homes walk all) (tree : Term → TypeData) where
  abbrev view : Term → TypeData
  view t = plain (tree t)

  types_open : Opens walk (same_heads homes) view hole (λ t. view t ∷ [])
  types_open = record {
    test = λ t u. sym (and_true (walk (view t) (view u)));
    long = λ t u e. refl;
    pairs = λ t u e. sym (append-nil (interfaces_in (view t) (view u)));
  }

  -- a head over several types
  typed : (h g : Head) (ts us : List Term) → (here : (ps qs : Parts) → walk (made h ps) (made g qs) ≡ (same_head (home_by homes) h g && all ps qs))
      → walk (made h (plain_all (parts_of (map tree ts)))) (made g (plain_all (parts_of (map tree us))))
      ≡ ((same_head (home_by homes) h g && all_same_heads homes (parts_of (map hole ts)) (parts_of (map hole us))) && all_by walk (map view ts) (map view us))
  typed h g ts us here =
      rw (plain_each tree ts, plain_each tree us, ← one_each view ts, ← one_each view us) (listed homes walk all law view hole (λ t. view t ∷ []) types_open h g ts us here)

  typed_long : (ts us : List Term) → all_same_heads homes (parts_of (map hole ts)) (parts_of (map hole us)) ≡ true → length (map view ts) ≡ length (map view us)
  typed_long ts us e =
      rw (← one_each view ts, ← one_each view us) (listed_long homes walk all law view hole (λ t. view t ∷ []) types_open ts us e)

  typed_pairs : (ts us : List Term) → interfaces_in_all (plain_all (parts_of (map tree ts))) (plain_all (parts_of (map tree us))) ≡ all_pairs (map view ts) (map view us)
  typed_pairs ts us = rw (plain_each tree ts, plain_each tree us) (pairs_lists (map view ts) (map view us))

  lists_open : Opens walk (same_heads homes) (λ (ts : List Term). plain (of_list list (map tree ts))) (λ ts. of_list list (map hole ts)) (λ ts. map view ts)
  lists_open = record {
    test = λ ts us. typed list list ts us (λ ps qs. law.nodes list list ps qs refl);
    long = typed_long;
    pairs = λ ts us e. typed_pairs ts us;
  }

  abbrev sides : FuncShape → List (List Term)
  sides f = f.params.items ∷ f.results.items ∷ []

  within_func : (f : FuncShape) → flat_map (map view) (sides f) ≡ map view (types_in_func f)
  within_func f = ap (λ l. map view f.params.items ++ l) (append-nil (map view f.results.items)) ∙ sym (map-append view f.params.items f.results.items)

  -- a head over parameters and results
  func_test : (h g : Head) (f k : FuncShape) → (here : (ps qs : Parts) → walk (made h ps) (made g qs) ≡ (same_head (home_by homes) h g && all ps qs))
      → walk (made h (plain_all (func_parts tree f))) (made g (plain_all (func_parts tree k)))
      ≡ ((same_head (home_by homes) h g && all_same_heads homes (func_parts hole f) (func_parts hole k)) && all_by walk (map view (types_in_func f)) (map view (types_in_func k)))
  func_test h g f k here =
      rw (← within_func f, ← within_func k) (listed homes walk all law (λ (ts : List Term). plain (of_list list (map tree ts))) (λ ts. of_list list (map hole ts)) (λ ts. map view ts) lists_open h g (sides f) (sides k) here)

  func_long : (f k : FuncShape) → all_same_heads homes (func_parts hole f) (func_parts hole k) ≡ true → length (map view (types_in_func f)) ≡ length (map view (types_in_func k))
  func_long f k e =
      rw (← within_func f, ← within_func k) (listed_long homes walk all law (λ (ts : List Term). plain (of_list list (map tree ts))) (λ ts. of_list list (map hole ts)) (λ ts. map view ts) lists_open (sides f) (sides k) e)

  func_pairs : (f k : FuncShape) → all_same_heads homes (func_parts hole f) (func_parts hole k) ≡ true
      → interfaces_in_all (plain_all (func_parts tree f)) (plain_all (func_parts tree k)) ≡ all_pairs (map view (types_in_func f)) (map view (types_in_func k))
  func_pairs f k e =
      rw (← within_func f, ← within_func k) (listed_pairs homes walk all law (λ (ts : List Term). plain (of_list list (map tree ts))) (λ ts. of_list list (map hole ts)) (λ ts. map view ts) lists_open (sides f) (sides k) e)

  fields_open : Opens walk (same_heads homes) (λ f. plain (field_tree tree f)) (field_tree hole) (λ f. view f.ty ∷ [])
  fields_open = record {
    test = λ f g. typed (field _) (field _) (f.ty ∷ []) (g.ty ∷ []) (λ ps qs. law.nodes (field _) (field _) ps qs refl);
    long = λ f g e. refl;
    pairs = λ f g e. refl;
  }

  terms_open : Opens walk (same_heads homes) (λ u. plain (union_tree tree u)) (union_tree hole) (λ u. view u.ty ∷ [])
  terms_open = record {
    test = λ u v. typed (union_term u.tilde) (union_term v.tilde) (u.ty ∷ []) (v.ty ∷ []) (λ ps qs. law.nodes (union_term u.tilde) (union_term v.tilde) ps qs refl);
    long = λ u v e. refl;
    pairs = λ u v e. refl;
  }

  fields_within : (fs : List FieldShape) → flat_map (λ f. view f.ty ∷ []) fs ≡ map view (map (λ f. f.ty) fs)
  fields_within [] = refl
  fields_within (f ∷ fs) = ap (λ l. view f.ty ∷ l) (fields_within fs)

  terms_within : (us : List UnionShape) → flat_map (λ u. view u.ty ∷ []) us ≡ map view (map (λ u. u.ty) us)
  terms_within [] = refl
  terms_within (u ∷ us) = ap (λ l. view u.ty ∷ l) (terms_within us)

  terms_test : (us vs : List UnionShape)
      → walk (made union (plain_all (parts_of (map (union_tree tree) us)))) (made union (plain_all (parts_of (map (union_tree tree) vs))))
      ≡ ((true && all_same_heads homes (parts_of (map (union_tree hole) us)) (parts_of (map (union_tree hole) vs))) && all_by walk (map view (map (λ u. u.ty) us)) (map view (map (λ u. u.ty) vs)))
  terms_test us vs =
      rw (plain_each (union_tree tree) us, plain_each (union_tree tree) vs, ← terms_within us, ← terms_within vs)
      (listed homes walk all law (λ u. plain (union_tree tree u)) (union_tree hole) (λ u. view u.ty ∷ []) terms_open union union us vs (λ ps qs. law.nodes union union ps qs refl))

  terms_long : (us vs : List UnionShape) → all_same_heads homes (parts_of (map (union_tree hole) us)) (parts_of (map (union_tree hole) vs)) ≡ true
      → length (map view (map (λ u. u.ty) us)) ≡ length (map view (map (λ u. u.ty) vs))
  terms_long us vs e =
      rw (← terms_within us, ← terms_within vs) (listed_long homes walk all law (λ u. plain (union_tree tree u)) (union_tree hole) (λ u. view u.ty ∷ []) terms_open us vs e)

  terms_pairs : (us vs : List UnionShape) → all_same_heads homes (parts_of (map (union_tree hole) us)) (parts_of (map (union_tree hole) vs)) ≡ true
      → interfaces_in_all (plain_all (parts_of (map (union_tree tree) us))) (plain_all (parts_of (map (union_tree tree) vs))) ≡ all_pairs (map view (map (λ u. u.ty) us)) (map view (map (λ u. u.ty) vs))
  terms_pairs us vs e =
      rw (plain_each (union_tree tree) us, plain_each (union_tree tree) vs, ← terms_within us, ← terms_within vs)
      (listed_pairs homes walk all law (λ u. plain (union_tree tree u)) (union_tree hole) (λ u. view u.ty ∷ []) terms_open us vs e)

  elem_test : (e f : ElemShape) → walk (plain (elem_tree tree e)) (plain (elem_tree tree f)) ≡ (same_heads homes (elem_tree hole e) (elem_tree hole f) && all_by walk (map view (types_in_elem e)) (map view (types_in_elem f)))
  elem_test (E.Method d n p f) (E.Method e m q g) = func_test (method _) (method _) f g (λ ps qs. law.nodes (method _) (method _) ps qs refl)
  elem_test (E.Union us) (E.Union vs) = terms_test us.items vs.items
  elem_test (E.Method d n p f) (E.Union vs) = law.nodes _ _ _ _ refl
  elem_test (E.Union us) (E.Method e m q g) = law.nodes _ _ _ _ refl

  elem_long : (e f : ElemShape) → same_heads homes (elem_tree hole e) (elem_tree hole f) ≡ true → length (map view (types_in_elem e)) ≡ length (map view (types_in_elem f))
  elem_long (E.Method d n p f) (E.Method e m q g) is = func_long f g (and_second _ _ is)
  elem_long (E.Union us) (E.Union vs) is = terms_long us.items vs.items is
  elem_long (E.Method d n p f) (E.Union vs) is = cc
  elem_long (E.Union us) (E.Method e m q g) is = cc

  elem_pairs : (e f : ElemShape) → same_heads homes (elem_tree hole e) (elem_tree hole f) ≡ true → interfaces_in (plain (elem_tree tree e)) (plain (elem_tree tree f)) ≡ all_pairs (map view (types_in_elem e)) (map view (types_in_elem f))
  elem_pairs (E.Method d n p f) (E.Method e m q g) is = func_pairs f g (and_second _ _ is)
  elem_pairs (E.Union us) (E.Union vs) is = terms_pairs us.items vs.items is
  elem_pairs (E.Method d n p f) (E.Union vs) is = cc
  elem_pairs (E.Union us) (E.Method e m q g) is = cc

  elems_open : Opens walk (same_heads homes) (λ e. plain (elem_tree tree e)) (elem_tree hole) (λ e. map view (types_in_elem e))
  elems_open = record { test = elem_test; long = elem_long; pairs = elem_pairs }

  elems_within : (es : List ElemShape) → flat_map (λ e. map view (types_in_elem e)) es ≡ map view (flat_map types_in_elem es)
  elems_within es = flat_map_map types_in_elem view es

  pub layer_test : (x y : Shape) → (both_interfaces x y ≡ true → (ps qs : Parts) → walk (made interface_type ps) (made interface_type qs) ≡ all ps qs)
      → walk (plain (shape_tree tree x)) (plain (shape_tree tree y)) ≡ (same_layer homes x y && all_by walk (map view (types_in x)) (map view (types_in y)))
  layer_test (S.Basic a) (S.Basic b) at = typed (basic a) (basic b) [] [] (λ ps qs. law.nodes _ _ ps qs refl)
  layer_test (S.Pointer t) (S.Pointer u) at = typed pointer pointer (t ∷ []) (u ∷ []) (λ ps qs. law.nodes _ _ ps qs refl)
  layer_test (S.Slice t) (S.Slice u) at = typed slice slice (t ∷ []) (u ∷ []) (λ ps qs. law.nodes _ _ ps qs refl)
  layer_test (S.Array m t) (S.Array n u) at = typed (array m) (array n) (t ∷ []) (u ∷ []) (λ ps qs. law.nodes _ _ ps qs refl)
  layer_test (S.Map k v) (S.Map l w) at = typed map_type map_type (k ∷ v ∷ []) (l ∷ w ∷ []) (λ ps qs. law.nodes _ _ ps qs refl)
  layer_test (S.Chan d t) (S.Chan e u) at = typed (channel d) (channel e) (t ∷ []) (u ∷ []) (λ ps qs. law.nodes _ _ ps qs refl)
  layer_test (S.Func f) (S.Func g) at = func_test (function f.variadic) (function g.variadic) f g (λ ps qs. law.nodes _ _ ps qs refl)
  layer_test (S.Struct fs) (S.Struct gs) at =
      rw (plain_each (field_tree tree) fs.items, plain_each (field_tree tree) gs.items, ← fields_within fs.items, ← fields_within gs.items)
      (listed homes walk all law (λ f. plain (field_tree tree f)) (field_tree hole) (λ f. view f.ty ∷ []) fields_open struct_type struct_type fs.items gs.items (λ ps qs. law.nodes _ _ ps qs refl))
  layer_test (S.Interface es) (S.Interface fs) at =
      rw (plain_each (elem_tree tree) es.items, plain_each (elem_tree tree) fs.items, ← elems_within es.items, ← elems_within fs.items)
      (listed homes walk all law (λ e. plain (elem_tree tree e)) (elem_tree hole) (λ e. map view (types_in_elem e)) elems_open interface_type interface_type es.items fs.items (at refl))
  layer_test (S.Tuple ts) (S.Tuple us) at = typed tuple tuple ts.items us.items (λ ps qs. law.nodes _ _ ps qs refl)
  layer_test (S.Named d ts) (S.Named e us) at = typed (named d) (named e) ts.items us.items (λ ps qs. law.nodes _ _ ps qs refl)
  layer_test (S.Param d i) (S.Param e j) at = typed (param d i) (param e j) [] [] (λ ps qs. law.nodes _ _ ps qs refl)
  layer_test (S.Bound i) (S.Bound j) at = typed (bound i) (bound j) [] [] (λ ps qs. law.nodes _ _ ps qs refl)
  layer_test x y at = law.nodes _ _ _ _ refl

  pub layer_long : (x y : Shape) → same_layer homes x y ≡ true → length (types_in x) ≡ length (types_in y)
  layer_long x y is = sym (length-map (types_in x) view) ∙ go x y is ∙ length-map (types_in y) view
    where
      go : (x y : Shape) → same_layer homes x y ≡ true → length (map view (types_in x)) ≡ length (map view (types_in y))
      go (S.Basic a) (S.Basic b) e = refl
      go (S.Pointer t) (S.Pointer u) e = refl
      go (S.Slice t) (S.Slice u) e = refl
      go (S.Array m t) (S.Array n u) e = refl
      go (S.Map k v) (S.Map l w) e = refl
      go (S.Chan d t) (S.Chan c u) e = refl
      go (S.Func f) (S.Func g) e = func_long f g (and_second _ _ e)
      go (S.Struct fs) (S.Struct gs) e = rw (← fields_within fs.items, ← fields_within gs.items) (listed_long homes walk all law (λ f. plain (field_tree tree f)) (field_tree hole) (λ f. view f.ty ∷ []) fields_open fs.items gs.items e)
      go (S.Interface es) (S.Interface fs) e = rw (← elems_within es.items, ← elems_within fs.items) (listed_long homes walk all law (λ e. plain (elem_tree tree e)) (elem_tree hole) (λ e. map view (types_in_elem e)) elems_open es.items fs.items e)
      go (S.Tuple ts) (S.Tuple us) e = typed_long ts.items us.items e
      go (S.Named d ts) (S.Named c us) e = typed_long ts.items us.items (and_second _ _ e)
      go (S.Param d i) (S.Param c j) e = refl
      go (S.Bound i) (S.Bound j) e = refl
      go x y e = cc

  pub layer_pairs : (x y : Shape) → both_interfaces x y ≡ false → same_layer homes x y ≡ true
      → interfaces_in (plain (shape_tree tree x)) (plain (shape_tree tree y)) ≡ all_pairs (map view (types_in x)) (map view (types_in y))
  layer_pairs (S.Basic a) (S.Basic b) apart e = refl
  layer_pairs (S.Pointer t) (S.Pointer u) apart e = refl
  layer_pairs (S.Slice t) (S.Slice u) apart e = refl
  layer_pairs (S.Array m t) (S.Array n u) apart e = refl
  layer_pairs (S.Map k v) (S.Map l w) apart e = refl
  layer_pairs (S.Chan d t) (S.Chan c u) apart e = refl
  layer_pairs (S.Func f) (S.Func g) apart e = func_pairs f g (and_second _ _ e)
  layer_pairs (S.Struct fs) (S.Struct gs) apart e =
      rw (plain_each (field_tree tree) fs.items, plain_each (field_tree tree) gs.items, ← fields_within fs.items, ← fields_within gs.items)
      (listed_pairs homes walk all law (λ f. plain (field_tree tree f)) (field_tree hole) (λ f. view f.ty ∷ []) fields_open fs.items gs.items e)
  layer_pairs (S.Interface es) (S.Interface fs) apart e = cc
  layer_pairs (S.Tuple ts) (S.Tuple us) apart e = typed_pairs ts.items us.items
  layer_pairs (S.Named d ts) (S.Named c us) apart e = typed_pairs ts.items us.items
  layer_pairs (S.Param d i) (S.Param c j) apart e = refl
  layer_pairs (S.Bound i) (S.Bound j) apart e = refl
  layer_pairs x y apart e = cc
