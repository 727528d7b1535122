-- What a call of a judge keeps.
use Rattle.std.proofs.Common.{◌≡◌, ◌++◌, Bool, List, [], ◌∷◌, map, refl, ◌∙◌}
use Rattle.std.specs.List.{AllByRecursion, flat_map}
use Rattle.go_term.specs.Shapes.{func_parts, field_tree, union_tree, elem_tree, shape_tree}
use Rattle.go_term.specs.Types.{TypeData}
use Rattle.go_term.specs.declared.term.Term.{Term}
use Rattle.go_term.specs.declared.shape.Shape.{Shape}
use Rattle.go_term.specs.declared.shape.Shape.TheVariants as S
use Rattle.go_term.specs.declared.shape.FuncShape.{FuncShape}
use Rattle.go_term.specs.declared.shape.FieldShape.{FieldShape}
use Rattle.go_term.specs.declared.shape.UnionShape.{UnionShape}
use Rattle.go_term.specs.declared.shape.ElemShape.{ElemShape}
use Rattle.go_term.specs.declared.shape.ElemShape.TheVariants as E
use Rattle.go_judge.specs.Headers.{Headers, Outcomes}
use Rattle.go_judge.specs.Types.Own.{Keeps, KeepsTypes, AreOwn, AreOwnFunc, IsOwnElem}
use Rattle.go_judge.specs.Naming.{Naming}
use Rattle.go_same.specs.Layers.{types_in, types_in_func, types_in_elem, pair_view, IsOwnPair}

module _ {own own' : Term → Type 0} {tree tree' : Term → TypeData} (kept : KeepsTypes own own' tree tree') where
  pub types_stay : (ts : List Term) → AllByRecursion own ts → AllByRecursion own' ts
  types_stay [] all = tt
  types_stay (t ∷ ts) all = (kept.types t all.0, types_stay ts all.1)

  pub types_kept : (ts : List Term) → AllByRecursion own ts → map tree' ts ≡ map tree ts
  types_kept [] all = refl
  types_kept (t ∷ ts) all = let e = kept.trees t all.0 in let es = types_kept ts all.1 in cc

  func_stays : (f : FuncShape) → AreOwnFunc own f → AreOwnFunc own' f
  func_stays f all = (types_stay f.params.items all.0, types_stay f.results.items all.1)

  func_kept : (f : FuncShape) → AreOwnFunc own f → func_parts tree' f ≡ func_parts tree f
  func_kept f all = let e = types_kept f.params.items all.0 in let h = types_kept f.results.items all.1 in cc

  fields_stay : (fs : List FieldShape) → AllByRecursion (λ f. own f.ty) fs → AllByRecursion (λ f. own' f.ty) fs
  fields_stay [] all = tt
  fields_stay (f ∷ fs) all = (kept.types f.ty all.0, fields_stay fs all.1)

  fields_kept : (fs : List FieldShape) → AllByRecursion (λ f. own f.ty) fs → map (field_tree tree') fs ≡ map (field_tree tree) fs
  fields_kept [] all = refl
  fields_kept (f ∷ fs) all = let e = kept.trees f.ty all.0 in let es = fields_kept fs all.1 in cc

  terms_stay : (us : List UnionShape) → AllByRecursion (λ u. own u.ty) us → AllByRecursion (λ u. own' u.ty) us
  terms_stay [] all = tt
  terms_stay (u ∷ us) all = (kept.types u.ty all.0, terms_stay us all.1)

  terms_kept : (us : List UnionShape) → AllByRecursion (λ u. own u.ty) us → map (union_tree tree') us ≡ map (union_tree tree) us
  terms_kept [] all = refl
  terms_kept (u ∷ us) all = let e = kept.trees u.ty all.0 in let es = terms_kept us all.1 in cc

  elem_stays : (e : ElemShape) → IsOwnElem own e → IsOwnElem own' e
  elem_stays (E.Method d n p f) all = func_stays f all
  elem_stays (E.Union us) all = terms_stay us.items all

  elem_kept : (e : ElemShape) → IsOwnElem own e → elem_tree tree' e ≡ elem_tree tree e
  elem_kept (E.Method d n p f) all = let e = func_kept f all in cc
  elem_kept (E.Union us) all = let e = terms_kept us.items all in cc

  elems_stay : (es : List ElemShape) → AllByRecursion (IsOwnElem own) es → AllByRecursion (IsOwnElem own') es
  elems_stay [] all = tt
  elems_stay (e ∷ es) all = (elem_stays e all.0, elems_stay es all.1)

  elems_kept : (es : List ElemShape) → AllByRecursion (IsOwnElem own) es → map (elem_tree tree') es ≡ map (elem_tree tree) es
  elems_kept [] all = refl
  elems_kept (e ∷ es) all = let one = elem_kept e all.0 in let rest = elems_kept es all.1 in cc

  pub layer_stays : (x : Shape) → AreOwn own x → AreOwn own' x
  layer_stays (S.Basic b) all = tt
  layer_stays (S.Pointer t) all = kept.types t all
  layer_stays (S.Slice t) all = kept.types t all
  layer_stays (S.Array n t) all = kept.types t all
  layer_stays (S.Map k v) all = (kept.types k all.0, kept.types v all.1)
  layer_stays (S.Chan d t) all = kept.types t all
  layer_stays (S.Func f) all = func_stays f all
  layer_stays (S.Struct fs) all = fields_stay fs.items all
  layer_stays (S.Interface es) all = elems_stay es.items all
  layer_stays (S.Tuple ts) all = types_stay ts.items all
  layer_stays (S.Named d ts) all = types_stay ts.items all
  layer_stays (S.Param d i) all = tt
  layer_stays (S.Bound k) all = tt

  pub layer_kept : (x : Shape) → AreOwn own x → shape_tree tree' x ≡ shape_tree tree x
  layer_kept (S.Basic b) all = refl
  layer_kept (S.Pointer t) all = let e = kept.trees t all in cc
  layer_kept (S.Slice t) all = let e = kept.trees t all in cc
  layer_kept (S.Array n t) all = let e = kept.trees t all in cc
  layer_kept (S.Map k v) all = let e = kept.trees k all.0 in let h = kept.trees v all.1 in cc
  layer_kept (S.Chan d t) all = let e = kept.trees t all in cc
  layer_kept (S.Func f) all = let e = func_kept f all in cc
  layer_kept (S.Struct fs) all = let e = fields_kept fs.items all in cc
  layer_kept (S.Interface es) all = let e = elems_kept es.items all in cc
  layer_kept (S.Tuple ts) all = let e = types_kept ts.items all in cc
  layer_kept (S.Named d ts) all = let e = types_kept ts.items all in cc
  layer_kept (S.Param d i) all = refl
  layer_kept (S.Bound k) all = refl

  pub pairs_stay : (ps : List (Shape × Shape)) → AllByRecursion (IsOwnPair own) ps → AllByRecursion (IsOwnPair own') ps
  pairs_stay [] all = tt
  pairs_stay (p ∷ ps) all = ((layer_stays p.0 all.0.0, layer_stays p.1 all.0.1), pairs_stay ps all.1)

  pub pairs_kept : (ps : List (Shape × Shape)) → AllByRecursion (IsOwnPair own) ps → map (pair_view tree') ps ≡ map (pair_view tree) ps
  pairs_kept [] all = refl
  pairs_kept (p ∷ ps) all = let e = layer_kept p.0 all.0.0 in let h = layer_kept p.1 all.0.1 in let es = pairs_kept ps all.1 in cc

-- the types in a layer of its own are its own
module _ (own : Term → Type 0) where
  own-append : (ts us : List Term) → AllByRecursion own ts → AllByRecursion own us → AllByRecursion own (ts ++ us)
  own-append [] us all more = more
  own-append (t ∷ ts) us all more = (all.0, own-append ts us all.1 more)

  fields_own : (fs : List FieldShape) → AllByRecursion (λ f. own f.ty) fs → AllByRecursion own (map (λ f. f.ty) fs)
  fields_own [] all = tt
  fields_own (f ∷ fs) all = (all.0, fields_own fs all.1)

  terms_own : (us : List UnionShape) → AllByRecursion (λ u. own u.ty) us → AllByRecursion own (map (λ u. u.ty) us)
  terms_own [] all = tt
  terms_own (u ∷ us) all = (all.0, terms_own us all.1)

  pub func_own : (f : FuncShape) → AreOwnFunc own f → AllByRecursion own (types_in_func f)
  func_own f all = own-append f.params.items f.results.items all.0 all.1

  elem_own : (e : ElemShape) → IsOwnElem own e → AllByRecursion own (types_in_elem e)
  elem_own (E.Method d n p f) all = func_own f all
  elem_own (E.Union us) all = terms_own us.items all

  elems_own : (es : List ElemShape) → AllByRecursion (IsOwnElem own) es → AllByRecursion own (flat_map types_in_elem es)
  elems_own [] all = tt
  elems_own (e ∷ es) all = own-append (types_in_elem e) (flat_map types_in_elem es) (elem_own e all.0) (elems_own es all.1)

  pub layer_own : (x : Shape) → AreOwn own x → AllByRecursion own (types_in x)
  layer_own (S.Basic b) all = tt
  layer_own (S.Pointer t) all = (all, tt)
  layer_own (S.Slice t) all = (all, tt)
  layer_own (S.Array n t) all = (all, tt)
  layer_own (S.Map k v) all = (all.0, (all.1, tt))
  layer_own (S.Chan d t) all = (all, tt)
  layer_own (S.Func f) all = func_own f all
  layer_own (S.Struct fs) all = fields_own fs.items all
  layer_own (S.Interface es) all = elems_own es.items all
  layer_own (S.Tuple ts) all = all
  layer_own (S.Named d ts) all = all
  layer_own (S.Param d i) all = tt
  layer_own (S.Bound k) all = tt

  pub pair_more : (ps : List (Shape × Shape)) (p : Shape × Shape) → AllByRecursion (IsOwnPair own) ps → IsOwnPair own p → AllByRecursion (IsOwnPair own) (ps ++ p ∷ [])
  pair_more [] p all one = (one, tt)
  pair_more (q ∷ ps) p all one = (all.0, pair_more ps p all.1 one)

pub keeps_then : {World : Type 0} {h h' h'' : Headers} {n n' n'' : Naming} {o o' o'' : Outcomes} {s s' s'' : Bool} {w w' w'' : World} {own own' own'' : Term → Type 0} {tree tree' tree'' : Term → TypeData}
    → Keeps h h' n n' o o' s s' w w' own own' tree tree' → Keeps h' h'' n' n'' o' o'' s' s'' w' w'' own' own'' tree' tree'' → Keeps h h'' n n'' o o'' s s'' w w'' own own'' tree tree''
keeps_then a b = record {
  same = b.same ∙ a.same;
  named = b.named ∙ a.named;
  walked = b.walked ∙ a.walked;
  memory = b.memory ∙ a.memory;
  around = b.around ∙ a.around;
  kept = record { types = λ t i. b.kept.types t (a.kept.types t i); trees = λ t i. b.kept.trees t (a.kept.types t i) ∙ a.kept.trees t i };
}
