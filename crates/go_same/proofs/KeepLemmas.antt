-- What a call of a judge keeps of lists of types, shapes, and type sets.
use Rattle.std.proofs.Common.{◌≡◌, List, [], ◌∷◌, ◌++◌, Bool, map, refl, ◌∙◌, Vec, Global}
use Rattle.std.specs.List.{AllByRecursion}
use Rattle.go_term.specs.Shapes.{elem_tree, func_parts, union_tree}
use Rattle.go_term.specs.Types.{TypeData}
use Rattle.go_term.specs.declared.term.Term.{Term}
use Rattle.go_term.specs.declared.shape.ElemShape.{ElemShape}
use Rattle.go_term.specs.declared.shape.ElemShape.TheVariants as E
use Rattle.go_term.specs.declared.shape.FuncShape.{FuncShape}
use Rattle.go_term.specs.declared.shape.UnionShape.{UnionShape}
use Rattle.go_judge.specs.Headers.{Headers, Outcomes}
use Rattle.go_judge.specs.Types.Own.{AreOwnFunc, IsOwnElem, Keeps, KeepsTypes}
use Rattle.go_judge.specs.Naming.{Naming}
use Rattle.go_same.specs.Sets.{IsOwnFound, IsOwnSet, found_as, method_view, part_view, set_view}
use Rattle.go_same.specs.declared.set.FoundSet.{FoundSet}
use Rattle.go_same.specs.declared.set.FoundSet.TheVariants as F
use Rattle.go_same.specs.declared.set.Method.{Method}
use Rattle.go_same.specs.declared.set.TypeSet.{TypeSet}
use Rattle.go_same.specs.declared.set.UnionPart.{UnionPart}

-- of each element what follows for one
pub all-weaker : {A : Type 0} (P Q : A → Type 0) → ((x : A) → P x → Q x) → (xs : List A) → AllByRecursion P xs → AllByRecursion Q xs
all-weaker P Q each [] all = tt
all-weaker P Q each (x ∷ xs) all = (each x all.0, all-weaker P Q each xs all.1)

pub all-joined : {A : Type 0} (P : A → Type 0) (xs ys : List A) → AllByRecursion P xs → AllByRecursion P ys → AllByRecursion P (xs ++ ys)
all-joined P [] ys all also = also
all-joined P (x ∷ xs) ys all also = (all.0, all-joined P xs ys all.1 also)

-- two views that agree on each element
pub map-agrees : {A B : Type 0} (P : A → Type 0) (f g : A → B) → ((x : A) → P x → f x ≡ g x) → (xs : List A) → AllByRecursion P xs → map f xs ≡ map g xs
map-agrees P f g each [] all = refl
map-agrees P f g each (x ∷ xs) all = let one = each x all.0 in let rest = map-agrees P f g each xs all.1 in cc

module _ {own own' : Term → Type 0} {tree tree' : Term → TypeData} (kept : KeepsTypes own own' tree tree') where
  pub trees_kept : (ts : List Term) → AllByRecursion own ts → map tree' ts ≡ map tree ts
  trees_kept ts all = map-agrees own tree' tree kept.trees ts all

  pub types_kept : (ts : List Term) → AllByRecursion own ts → AllByRecursion own' ts
  types_kept ts all = all-weaker own own' kept.types ts all

  pub func_kept : (f : FuncShape) → AreOwnFunc own f → func_parts tree' f ≡ func_parts tree f
  func_kept f all = let params = trees_kept f.params.items all.0 in let results = trees_kept f.results.items all.1 in cc

  pub func_types : (f : FuncShape) → AreOwnFunc own f → AreOwnFunc own' f
  func_types f all = (types_kept f.params.items all.0, types_kept f.results.items all.1)

  pub union_kept : (u : UnionShape) → own u.ty → union_tree tree' u ≡ union_tree tree u
  union_kept u is = let e = kept.trees u.ty is in cc

  pub unions_kept : (us : List UnionShape) → AllByRecursion (λ u. own u.ty) us → map (union_tree tree') us ≡ map (union_tree tree) us
  unions_kept us all = map-agrees (λ u. own u.ty) (union_tree tree') (union_tree tree) union_kept us all

  pub union_types : (us : List UnionShape) → AllByRecursion (λ u. own u.ty) us → AllByRecursion (λ u. own' u.ty) us
  union_types us all = all-weaker (λ u. own u.ty) (λ u. own' u.ty) (λ u is. kept.types u.ty is) us all

  pub elem_kept : (e : ElemShape) → IsOwnElem own e → elem_tree tree' e ≡ elem_tree tree e
  elem_kept (E.Method d name home f) all = let e = func_kept f all in cc
  elem_kept (E.Union us) all = let e = unions_kept us.items all in cc

  pub elem_types : (e : ElemShape) → IsOwnElem own e → IsOwnElem own' e
  elem_types (E.Method d name home f) all = func_types f all
  elem_types (E.Union us) all = union_types us.items all

  pub elems_kept : (es : List ElemShape) → AllByRecursion (IsOwnElem own) es → map (elem_tree tree') es ≡ map (elem_tree tree) es
  elems_kept es all = map-agrees (IsOwnElem own) (elem_tree tree') (elem_tree tree) elem_kept es all

  pub elems_types : (es : List ElemShape) → AllByRecursion (IsOwnElem own) es → AllByRecursion (IsOwnElem own') es
  elems_types es all = all-weaker (IsOwnElem own) (IsOwnElem own') elem_types es all

  pub method_kept : (m : Method) → AreOwnFunc own m.signature → method_view tree' m ≡ method_view tree m
  method_kept m all = let e = func_kept m.signature all in cc

  pub part_kept : (p : UnionPart) → own p.ty → part_view tree' p ≡ part_view tree p
  part_kept p is = let e = kept.trees p.ty is in cc

  pub parts_kept : (ps : List UnionPart) → AllByRecursion (λ p. own p.ty) ps → map (part_view tree') ps ≡ map (part_view tree) ps
  parts_kept ps all = map-agrees (λ p. own p.ty) (part_view tree') (part_view tree) part_kept ps all

  pub parts_types : (ps : List UnionPart) → AllByRecursion (λ p. own p.ty) ps → AllByRecursion (λ p. own' p.ty) ps
  parts_types ps all = all-weaker (λ p. own p.ty) (λ p. own' p.ty) (λ p is. kept.types p.ty is) ps all

  pub all_parts_kept : (us : List (Vec UnionPart Global)) → AllByRecursion (λ u. AllByRecursion (λ p. own p.ty) u.items) us → map (λ u. map (part_view tree') u.items) us ≡ map (λ u. map (part_view tree) u.items) us
  all_parts_kept us all = map-agrees (λ u. AllByRecursion (λ p. own p.ty) u.items) (λ u. map (part_view tree') u.items) (λ u. map (part_view tree) u.items) (λ u is. parts_kept u.items is) us all

  pub all_parts_types : (us : List (Vec UnionPart Global)) → AllByRecursion (λ u. AllByRecursion (λ p. own p.ty) u.items) us → AllByRecursion (λ u. AllByRecursion (λ p. own' p.ty) u.items) us
  all_parts_types us all = all-weaker (λ u. AllByRecursion (λ p. own p.ty) u.items) (λ u. AllByRecursion (λ p. own' p.ty) u.items) (λ u is. parts_types u.items is) us all

  pub set_kept : (s : TypeSet) → IsOwnSet own s → set_view tree' s ≡ set_view tree s
  set_kept s all =
      let methods = map-agrees (λ m. AreOwnFunc own m.signature) (method_view tree') (method_view tree) method_kept s.methods.items all.0 in
      let unions = all_parts_kept s.unions.items all.1 in cc

  pub set_types : (s : TypeSet) → IsOwnSet own s → IsOwnSet own' s
  set_types s all = (all-weaker (λ m. AreOwnFunc own m.signature) (λ m. AreOwnFunc own' m.signature) (λ m is. func_types m.signature is) s.methods.items all.0, all_parts_types s.unions.items all.1)

  pub found_kept : (found : FoundSet) → IsOwnFound own found → found_as tree' found ≡ found_as tree found
  found_kept (F.Is s) all = let e = set_kept s all in cc
  found_kept F.Absent all = refl
  found_kept (F.Unknown d) all = refl

  pub found_types : (found : FoundSet) → IsOwnFound own found → IsOwnFound own' found
  found_types (F.Is s) all = set_types s all
  found_types F.Absent all = tt
  found_types (F.Unknown d) all = tt

pub keeps_then : {World : Type 0} {h h' h'' : Headers} {n n' n'' : Naming} {o o' o'' : Outcomes} {s s' s'' : Bool} {w w' w'' : World} {own own' own'' : Term → Type 0} {tree tree' tree'' : Term → TypeData}
    → Keeps h h' n n' o o' s s' w w' own own' tree tree' → Keeps h' h'' n' n'' o' o'' s' s'' w' w'' own' own'' tree' tree'' → Keeps h h'' n n'' o o'' s s'' w w'' own own'' tree tree''
keeps_then a b = record {
  same = b.same ∙ a.same;
  named = b.named ∙ a.named;
  walked = b.walked ∙ a.walked;
  memory = b.memory ∙ a.memory;
  around = b.around ∙ a.around;
  kept = record { types = λ t is. b.kept.types t (a.kept.types t is); trees = λ t is. b.kept.trees t (a.kept.types t is) ∙ a.kept.trees t is };
}

pub keeps_none : {World : Type 0} {h : Headers} {n : Naming} {o : Outcomes} {s : Bool} {w : World} {own : Term → Type 0} {tree : Term → TypeData} → Keeps h h n n o o s s w w own own tree tree
keeps_none = record { same = refl; named = refl; walked = refl; memory = refl; around = refl; kept = record { types = λ t is. is; trees = λ t is. refl } }
