-- Layers of types: what stands at a type, but for the types in it, and these types in order.
use Rattle.std.specs.Prelude.{ℕ, ◌&&◌, Bool, true, false, List, [], ◌∷◌, ◌++◌, map}
use Rattle.std.specs.Borrow.{Bor}
use Rattle.std.specs.List.{flat_map}
use Rattle.go_term.specs.Shapes.{shape_tree}
use Rattle.go_term.specs.Types.{TypeData, Parts, made, no_parts, more_parts, list, parts_of}
use Rattle.go_term.specs.declared.term.Term.{Term}
use Rattle.go_term.specs.declared.shape.Shape.{Shape}
use Rattle.go_term.specs.declared.shape.Shape.TheVariants as S
use Rattle.go_term.specs.declared.shape.FuncShape.{FuncShape}
use Rattle.go_term.specs.declared.shape.ElemShape.{ElemShape}
use Rattle.go_term.specs.declared.shape.ElemShape.TheVariants as E
use Rattle.go_judge.specs.Types.Heads.{same_head}
use Rattle.go_judge.specs.Types.TypeSets.{home_of, plain, plain_all}
use Rattle.go_judge.specs.Types.Own.{AreOwn}
use Rattle.go_same.specs.declared.layer.Homes.{Homes}
use Rattle.go_same.specs.declared.layer.Homes.TheVariants.{Each, Unexported}

-- stands in the place of each type in a layer
abbrev pub hole : Term → TypeData
hole t = made list no_parts

-- which path of a package counts of a name
abbrev pub home_by : Homes → List ℕ → List ℕ → List ℕ
home_by Each name home = home
home_by Unexported name home = home_of name home

module _ (homes : Homes) where
  -- the same heads and numbers of parts throughout
  abbrev mutual
    pub same_heads : TypeData → TypeData → Bool
    same_heads (made h ts) (made g us) = same_head (home_by homes) h g && all_same_heads ts us

    pub all_same_heads : Parts → Parts → Bool
    all_same_heads no_parts no_parts = true
    all_same_heads (more_parts t ts) (more_parts u us) = same_heads t u && all_same_heads ts us
    all_same_heads ts us = false

  abbrev pub same_layer : Shape → Shape → Bool
  same_layer x y = same_heads (shape_tree hole x) (shape_tree hole y)

-- the types in a layer, in order
abbrev pub types_in_func : FuncShape → List Term
types_in_func f = f.params.items ++ f.results.items

abbrev pub types_in_elem : ElemShape → List Term
types_in_elem (E.Method d name home f) = types_in_func f
types_in_elem (E.Union us) = map (λ u. u.ty) us.items

abbrev pub types_in : Shape → List Term
types_in (S.Basic b) = []
types_in (S.Pointer t) = t ∷ []
types_in (S.Slice t) = t ∷ []
types_in (S.Array n t) = t ∷ []
types_in (S.Map k v) = k ∷ v ∷ []
types_in (S.Chan d t) = t ∷ []
types_in (S.Func f) = types_in_func f
types_in (S.Struct fields) = map (λ f. f.ty) fields.items
types_in (S.Interface elems) = flat_map types_in_elem elems.items
types_in (S.Tuple ts) = ts.items
types_in (S.Named d ts) = ts.items
types_in (S.Param d i) = []
types_in (S.Bound k) = []

-- the types that are lent
abbrev pub lent : List (Bor Term) → List Term
lent ts = map (λ t. t.now) ts

abbrev pub both_interfaces : Shape → Shape → Bool
both_interfaces (S.Interface es) (S.Interface fs) = true
both_interfaces x y = false

-- what lists of types stand for, without the objects of fields and methods
abbrev pub plain_types : (Term → TypeData) → List Term → Parts
plain_types tree ts = plain_all (parts_of (map tree ts))

-- two layers of which each is that of an interface, seen without the objects of fields and methods
abbrev pub pair_view : (Term → TypeData) → Shape × Shape → TypeData × TypeData
pair_view tree p = (plain (shape_tree tree p.0), plain (shape_tree tree p.1))

abbrev pub IsOwnPair : (Term → Type 0) → Shape × Shape → Type 0
IsOwnPair own p = AreOwn own p.0 × AreOwn own p.1
