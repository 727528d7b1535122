-- The types in a layer are less deep than the type that has it.
use Rattle.std.proofs.Common.{◌≡◌, ℕ, ◌≤◌, ◌<◌, max, List, [], ◌∷◌, ◌++◌, map, arith}
use Rattle.std.specs.List.{flat_map}
use Rattle.go_term.specs.Shapes.{func_parts, field_tree, union_tree, elem_tree, shape_tree}
use Rattle.go_term.specs.Size.{depth, greatest_depth}
use Rattle.go_term.specs.Types.{TypeData, parts_of}
use Rattle.go_term.specs.declared.term.Term.{Term}
use Rattle.go_term.specs.declared.shape.Shape.{Shape}
use Rattle.go_term.specs.declared.shape.Shape.TheVariants as S
use Rattle.go_term.specs.declared.shape.FuncShape.{FuncShape}
use Rattle.go_term.specs.declared.shape.FieldShape.{FieldShape}
use Rattle.go_term.specs.declared.shape.UnionShape.{UnionShape}
use Rattle.go_term.specs.declared.shape.ElemShape.{ElemShape}
use Rattle.go_term.specs.declared.shape.ElemShape.TheVariants as E
use Rattle.go_same.specs.Layers.{types_in, types_in_func, types_in_elem}

module _ (tree : Term → TypeData) where
  abbrev pub deepest : List Term → ℕ
  deepest ts = greatest_depth (parts_of (map tree ts))

  deepest-append : (ts us : List Term) → deepest (ts ++ us) ≡ max (deepest ts) (deepest us)
  deepest-append [] us = omega arith
  deepest-append (t ∷ ts) us = let e = deepest-append ts us in omega arith

  func_depth : (f : FuncShape) → deepest (types_in_func f) ≤ greatest_depth (func_parts tree f)
  func_depth f = let e = deepest-append f.params.items f.results.items in omega arith

  fields_depth : (fs : List FieldShape) → deepest (map (λ f. f.ty) fs) ≤ greatest_depth (parts_of (map (field_tree tree) fs))
  fields_depth [] = omega arith
  fields_depth (f ∷ fs) = let e = fields_depth fs in omega arith

  terms_depth : (us : List UnionShape) → deepest (map (λ u. u.ty) us) ≤ greatest_depth (parts_of (map (union_tree tree) us))
  terms_depth [] = omega arith
  terms_depth (u ∷ us) = let e = terms_depth us in omega arith

  elem_depth : (e : ElemShape) → deepest (types_in_elem e) ≤ depth (elem_tree tree e)
  elem_depth (E.Method d n p f) = let e = func_depth f in omega arith
  elem_depth (E.Union us) = let e = terms_depth us.items in omega arith

  elems_depth : (es : List ElemShape) → deepest (flat_map types_in_elem es) ≤ greatest_depth (parts_of (map (elem_tree tree) es))
  elems_depth [] = omega arith
  elems_depth (e ∷ es) = let one = elem_depth e in let rest = elems_depth es in let both = deepest-append (types_in_elem e) (flat_map types_in_elem es) in omega arith

  pub layer_depth : (x : Shape) → deepest (types_in x) < depth (shape_tree tree x)
  layer_depth (S.Basic b) = omega arith
  layer_depth (S.Pointer t) = omega arith
  layer_depth (S.Slice t) = omega arith
  layer_depth (S.Array n t) = omega arith
  layer_depth (S.Map k v) = omega arith
  layer_depth (S.Chan d t) = omega arith
  layer_depth (S.Func f) = let e = func_depth f in omega arith
  layer_depth (S.Struct fs) = let e = fields_depth fs.items in omega arith
  layer_depth (S.Interface es) = let e = elems_depth es.items in omega arith
  layer_depth (S.Tuple ts) = omega arith
  layer_depth (S.Named d ts) = omega arith
  layer_depth (S.Param d i) = omega arith
  layer_depth (S.Bound k) = omega arith
