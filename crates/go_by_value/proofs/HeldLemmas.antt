-- What a value holds by the fields of its type, over a judge that goes on from field to field.
use Rattle.std.proofs.Common.{◌≡◌, ℕ, zero, suc, ◌+◌, ◌<◌, ◌≤◌, List, [], ◌∷◌, drop, get_or, length, map, sym, ap, subst, ◌∙◌, add-one, drop-cons, arith}
use Rattle.std.specs.List.{AllByRecursion}
use Rattle.go_base.specs.declared.ids.ObjId.{ObjId}
use Rattle.go_term.specs.Shapes.{field_tree}
use Rattle.go_term.specs.Size.{depth, greatest_depth}
use Rattle.go_term.specs.Types.{TypeData, parts_of}
use Rattle.go_term.specs.declared.shape.FieldShape.{FieldShape}
use Rattle.go_term.specs.declared.term.Term.{Term}
use Rattle.go_judge.specs.Types.Own.{KeepsTypes}
use Rattle.go_values.specs.ByValue.{held_in_each}

module _ (tree : Term → TypeData) where
  -- what the types of fields hold, and how deep they are
  abbrev pub held_in_fields : List FieldShape → List ObjId
  held_in_fields fs = held_in_each (parts_of (map (field_tree tree) fs))

  abbrev pub deepest : List FieldShape → ℕ
  deepest fs = greatest_depth (parts_of (map (field_tree tree) fs))

  dropped_depth : (fs : List FieldShape) (i : ℕ) → deepest (drop i fs) ≤ deepest fs
  dropped_depth fs zero = omega arith
  dropped_depth [] (suc i) = omega arith
  dropped_depth (f ∷ fs) (suc i) = let e = dropped_depth fs i in omega arith

-- one field of several
module _ {own own' : Term → Type 0} {tree tree' : Term → TypeData} (kept : KeepsTypes own own' tree tree')
    (fs : List FieldShape) (i : ℕ) (f : FieldShape) (lt : i < length fs) (at : f ≡ get_or fs i f) (all : AllByRecursion (λ (x : FieldShape). own x.ty) (drop i fs)) where
  opens : drop i fs ≡ f ∷ drop (i + 1) fs
  opens = rw add-one (drop-cons fs i f lt ∙ ap (λ l. l ∷ drop (suc i) fs) (sym at))

  one_own : own f.ty
  one_own = (subst (AllByRecursion (λ (x : FieldShape). own x.ty)) opens all).0

  pub here_own : own' f.ty
  here_own = kept.types f.ty one_own

  pub here_depth : depth (tree' f.ty) ≤ deepest tree fs
  here_depth =
      let e : depth (tree' f.ty) ≡ depth (tree f.ty) = ap depth (kept.trees f.ty one_own) in
      let same : deepest tree (drop i fs) ≡ deepest tree (f ∷ drop (i + 1) fs) = ap (deepest tree) opens in
      let le = dropped_depth tree fs i in omega arith
