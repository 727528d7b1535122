-- Expressions; Types; Statements (Go specification).
-- Decides in which parts of a node identifiers occur, and all nodes stand that can have records. In the others they do
-- not: a name behind a `.`; the name of a field, of a method of an interface, of a parameter or of a type parameter; a
-- tag; a key that is an identifier; a label. Which names these are: `Rules/MemberRules`. Literals and statements are not
-- built yet: of a key that names no field, and of names that statements declare, this is not yet what Go says.
use Rattle.std.specs.Prelude.{Bool, true, false, not, List, [], ◌∷◌, filter, if◌then◌else◌}
use Rattle.std.specs.List.{list_any}
use Rattle.go_tree.specs.declared.node_kind.NodeKind.{NodeKind}
use Rattle.go_tree.specs.declared.node_kind.NodeKind.TheVariants.{Name, StringLit, SelectorExpr, Field, EmbeddedField, EmbeddedPointer, MethodElem, Params, Param, VariadicParam, UnnamedParam, TypeParam, KeyValueExpr, LabeledStmt, BreakStmt, ContinueStmt, GotoStmt}
use Rattle.go_tree.specs.Tree.{Tree, kind_of, list_of, parts_of}
use Rattle.go_module.specs.declared.inner.Inner.{Inner}
use Rattle.go_module.specs.declared.inner.Inner.TheVariants.{All, First, Last, BehindFirst, BehindNames, BehindKey, TypesAlone, Neither}

-- which parts of a node of this kind they are: a line for each form that has others
abbrev pub inner_of : NodeKind → Inner
inner_of SelectorExpr = First
inner_of Field = BehindNames
inner_of EmbeddedField = First
inner_of EmbeddedPointer = First
inner_of MethodElem = BehindFirst
inner_of Params = TypesAlone
inner_of Param = BehindFirst
inner_of VariadicParam = BehindFirst
inner_of TypeParam = Last
inner_of KeyValueExpr = BehindKey
inner_of LabeledStmt = BehindFirst
inner_of BreakStmt = Neither
inner_of ContinueStmt = Neither
inner_of GotoStmt = Neither
inner_of kind = All

abbrev pub is_name_kind : NodeKind → Bool
is_name_kind Name = true
is_name_kind kind = false

abbrev pub is_tag_kind : NodeKind → Bool
is_tag_kind StringLit = true
is_tag_kind kind = false

-- `x T` and `x ...T`
abbrev pub is_named_param : NodeKind → Bool
is_named_param Param = true
is_named_param VariadicParam = true
is_named_param kind = false

-- `T`, which beside a parameter with a name and a type is a name with the next type
abbrev pub is_unnamed_param : NodeKind → Bool
is_unnamed_param UnnamedParam = true
is_unnamed_param kind = false

-- of things that each have a tree
module _ {X : Type 0} (tree : X → Tree) where
  abbrev pub first_alone : List X → List X
  first_alone [] = []
  first_alone (x ∷ xs) = x ∷ []

  abbrev pub last_alone : List X → List X
  last_alone [] = []
  last_alone (x ∷ []) = x ∷ []
  last_alone (x ∷ (y ∷ ys)) = last_alone (y ∷ ys)

  abbrev pub all_behind : List X → List X
  all_behind [] = []
  all_behind (x ∷ xs) = xs

  abbrev pub behind_key : List X → List X
  behind_key [] = []
  behind_key (x ∷ xs) = if is_name_kind (kind_of (tree x)) then xs else x ∷ xs

  abbrev pub types_alone : List X → List X
  types_alone xs =
      if list_any (λ x. is_named_param (kind_of (tree x))) xs then filter (λ x. not (is_unnamed_param (kind_of (tree x)))) xs
      else xs

  -- those that stand for these parts
  abbrev pub inner_by : Inner → List X → List X
  inner_by All xs = xs
  inner_by First xs = first_alone xs
  inner_by Last xs = last_alone xs
  inner_by BehindFirst xs = all_behind xs
  inner_by BehindNames xs = last_alone (filter (λ x. not (is_tag_kind (kind_of (tree x)))) xs)
  inner_by BehindKey xs = behind_key xs
  inner_by TypesAlone xs = types_alone xs
  inner_by Neither xs = []

-- these parts of a node
abbrev pub inner_parts : Tree → List Tree
inner_parts t = inner_by (λ t. t) (inner_of (kind_of t)) (list_of (parts_of t))
