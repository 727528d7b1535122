-- Which trees are written as types are: by their kinds, and by their parts.
use Rattle.std.proofs.Common.{◌≡◌, ℕ, Bool, true, false, List, [], ◌∷◌, ◌++◌, refl, ap, ◌∙◌, ◌&&◌, reverse}
use Rattle.std.proofs.lemmas.List.{reverse-append}
use Rattle.std.proofs.lemmas.Grind.{reverse_onto}
use Rattle.go_tree.specs.declared.node_kind.NodeKind.TheVariants as k
use Rattle.go_tree.specs.Tree.{Tree, branch, no_trees, more_trees, trees_of, kind_of, parts_of}
use Rattle.go_tree.specs.Grammar.Trees.TypeTrees.{is_name, is_type_name, is_type, all_types}
use Rattle.go_tree.specs.Grammar.Trees.Reading.{node_read}
use Rattle.go_tree.proofs.NetEffects.{Sorts, sorts, nameless, no_type, Is}

-- types that begin with a word or `[`
abbrev pub type_literal : Sorts
type_literal = sorts false false true true false

pub no_type_lem : (t : Tree) → Is no_type t → is_type t ≡ false
no_type_lem (branch id from to k.Name text parts) h = cc
no_type_lem (branch id from to k.SelectorExpr text parts) h = cc
no_type_lem (branch id from to k.IndexExpr text parts) h = cc
no_type_lem (branch id from to k.ParenExpr text parts) h = cc
no_type_lem (branch id from to k.StarExpr text parts) h = cc
no_type_lem (branch id from to k.ArrowExpr text parts) h = cc
no_type_lem (branch id from to k.ArrayType text parts) h = cc
no_type_lem (branch id from to k.EllipsisArrayType text parts) h = cc
no_type_lem (branch id from to k.SliceType text parts) h = cc
no_type_lem (branch id from to k.MapType text parts) h = cc
no_type_lem (branch id from to k.ChanType text parts) h = cc
no_type_lem (branch id from to k.FuncType text parts) h = cc
no_type_lem (branch id from to k.StructType text parts) h = cc
no_type_lem (branch id from to k.InterfaceType text parts) h = cc
no_type_lem (branch id from to _ text parts) h = refl

pub nameless_lem : (t : Tree) → Is nameless t → is_type_name t ≡ false
nameless_lem (branch id from to k.Name text parts) h = cc
nameless_lem (branch id from to k.SelectorExpr text parts) h = cc
nameless_lem (branch id from to _ text parts) h = refl

pub no_type_nameless : (t : Tree) → Is no_type t → is_type_name t ≡ false
no_type_nameless (branch id from to k.Name text parts) h = cc
no_type_nameless (branch id from to k.SelectorExpr text parts) h = cc
no_type_nameless (branch id from to _ text parts) h = refl

pub type_literal_lem : (t : Tree) → Is type_literal t → is_type t ≡ true
type_literal_lem (branch id from to k.ArrayType text parts) h = refl
type_literal_lem (branch id from to k.EllipsisArrayType text parts) h = refl
type_literal_lem (branch id from to k.SliceType text parts) h = refl
type_literal_lem (branch id from to k.MapType text parts) h = refl
type_literal_lem (branch id from to k.ChanType text parts) h = refl
type_literal_lem (branch id from to k.FuncType text parts) h = refl
type_literal_lem (branch id from to k.StructType text parts) h = refl
type_literal_lem (branch id from to k.InterfaceType text parts) h = refl
type_literal_lem (branch id from to _ text parts) h = cc

-- `<-` of a type is `<-chan` of its element
pub arrow_lem : (id from to : ℕ) (text : List ℕ) (t : Tree) → is_type (branch id from to k.ArrowExpr text (more_trees t no_trees)) ≡ true → (kind_of t ≡ k.ChanType) × (all_types (parts_of t) ≡ true)
arrow_lem id from to text (branch c f t k.ChanType x parts) h = (refl, h)
arrow_lem id from to text (branch c f t _ x parts) h = cc

pub and_true : (a : Bool) → (a && true) ≡ a
and_true true = refl
and_true false = refl

pub types_behind : (xs : List Tree) (y : Tree) → all_types (trees_of (xs ++ (y ∷ []))) ≡ (is_type y && all_types (trees_of xs))
types_behind [] y = refl
types_behind (x ∷ xs) y = ap (λ z. is_type x && z) (types_behind xs y) ∙ swapped (is_type x) (is_type y) (all_types (trees_of xs))
  where
    swapped : (a b c : Bool) → (a && (b && c)) ≡ (b && (a && c))
    swapped true b c = refl
    swapped false true c = refl
    swapped false false c = refl

types_reversed : (xs : List Tree) → all_types (trees_of (reverse xs)) ≡ all_types (trees_of xs)
types_reversed [] = refl
types_reversed (x ∷ xs) = ap (λ z. all_types (trees_of z)) (reverse_onto xs x []) ∙ (types_behind (reverse xs) x ∙ ap (λ z. is_type x && z) (types_reversed xs))

-- `T[A, B]`, whose newest parts are given
pub index_lem : (bytes : List ℕ) (to start : ℕ) (x : Tree) (zs : List Tree) → is_type (node_read bytes k.IndexExpr to (record { start = start; parts = zs ++ (x ∷ []) })) ≡ (is_type_name x && all_types (trees_of zs))
index_lem bytes to start x zs = ap (λ y. is_type (branch 0 start to k.IndexExpr [] (trees_of y))) (reverse-append zs (x ∷ [])) ∙ ap (λ y. is_type_name x && y) (types_reversed zs)

pub name_is_type : (t : Tree) → is_name t ≡ true → (is_type t ≡ true) × (is_type_name t ≡ true)
name_is_type (branch id from to k.Name text parts) h = (refl, refl)
name_is_type (branch id from to _ text parts) h = cc

pub unnamed : (t : Tree) → is_type_name t ≡ false → is_name t ≡ false
unnamed (branch id from to k.Name text parts) h = cc
unnamed (branch id from to _ text parts) h = refl

pub chan_is_type : (t : Tree) → kind_of t ≡ k.ChanType → is_type t ≡ true
chan_is_type (branch id from to kind text parts) h = ap (λ y. is_type (branch id from to y text parts)) h
