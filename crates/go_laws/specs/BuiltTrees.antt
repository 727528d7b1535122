-- Constant declarations; Variable declarations; Type declarations; Types; Operands; Qualified identifiers; Operators (Go
-- specification).
-- Says which expressions and types are made of what is built: of forms whose construct is known (`Walk` of go_model), each
-- with as many operands as it asks; and what stands behind the names of specs that are built. A node is one of these by its
-- kind and its parts; its text and its places are left to the grammar.
use Rattle.std.specs.Prelude.{◌≡◌, ℕ, Bool, true, false, Option, Some, None, List, [], ◌∷◌, Contains, slice_get}
use Rattle.go_tree.specs.declared.node_kind.NodeKind.{NodeKind}
use Rattle.go_tree.specs.declared.node_kind.NodeKind.TheVariants.{ArrayType, ArrowExpr, ChanType, EmbeddedPointer, FuncType, IntLit, InterfaceType, MapType, Name, ParenExpr, RuneLit, SelectorExpr, SliceType, StarExpr, StringLit, StructType}
use Rattle.go_tree.specs.Tree.{Tree, branch, kind_of, more_trees, no_trees}
use Rattle.go_module.specs.declared.object.ObjKind.{ObjKind}
use Rattle.go_module.specs.declared.object.ObjKind.TheVariants.{Alias, Const, Defined, Var}
use Rattle.go_module.specs.Modules.Module.{ModuleData, PackageData}
use Rattle.go_module.specs.Names.Declarations.{Spec, specs_of}
use Rattle.go_module.specs.Names.Inner.{inner_parts}
use Rattle.go_module.specs.Names.Occurrences.{nodes_in}
use Rattle.go_operands.specs.Operands.{expressions_in, passes}
use Rattle.go_constructs.specs.Operators.Nodes.{binary_of, unary_of}
use Rattle.go_constructs.specs.declared.operator.BinaryOp.{BinaryOp}
use Rattle.go_constructs.specs.declared.operator.UnaryOp.{UnaryOp}
use Rattle.go_model.specs.Outcomes.Walk.{many_operands}
use Rattle.go_laws.specs.Complete.{parts_in}

-- a node of the kind of names, without parts
pub data IsIdentifier : Tree → Type 0 where
  identifier : (id from to : ℕ) (text : List ℕ) → IsIdentifier (branch id from to Name text no_trees)

-- EXPRESSIONS AND TYPES

-- an operator, with so many operands: a binary or a unary one
abbrev pub IsOperator : Option BinaryOp → Option UnaryOp → ℕ → Type 0
IsOperator (Some op) unary many = many ≡ 2
IsOperator None (Some op) many = many ≡ 1
IsOperator None None many = ⊥

-- a form that is known, with so many operands: a line for each of the table of constructs
abbrev pub HasForm : Tree → ℕ → Type 0
HasForm (branch id from to IntLit text parts) many = many ≡ 0
HasForm (branch id from to RuneLit text parts) many = many ≡ 0
HasForm (branch id from to StringLit text parts) many = many ≡ 0
HasForm (branch id from to Name text parts) many = many ≡ 0
HasForm (branch id from to SelectorExpr text (more_trees x (more_trees f no_trees))) many = IsIdentifier x × IsIdentifier f
HasForm (branch id from to ParenExpr text parts) many = many ≡ 1
HasForm (branch id from to StarExpr text parts) many = many ≡ 1
HasForm (branch id from to EmbeddedPointer text parts) many = many ≡ 1
HasForm (branch id from to SliceType text parts) many = many ≡ 1
HasForm (branch id from to ArrayType text parts) many = many ≡ 2
HasForm (branch id from to MapType text parts) many = many ≡ 2
HasForm (branch id from to ChanType text parts) many = many ≡ 1
HasForm (branch id from to ArrowExpr text (more_trees (branch i f t ChanType x element) parts)) many = many ≡ 1
HasForm (branch id from to FuncType text (more_trees signature parts)) many = Unit {0}
HasForm (branch id from to StructType text decls) many = Unit {0}
HasForm (branch id from to InterfaceType text elems) many = Unit {0}
HasForm t many = IsOperator (binary_of (kind_of t)) (unary_of (kind_of t)) many

-- a name, and `x.f`
abbrev pub is_named : NodeKind → Bool
is_named Name = true
is_named SelectorExpr = true
is_named kind = false

-- an expression or a type of which each node has a form that is known; and where a name or a selector stands, it is an
-- operand, and not what only holds others together
pub record IsBuilt (t : Tree) : Type 0 where
  pub forms : (s : Tree) → Contains (expressions_in t) s → HasForm s (many_operands s)
  pub operands : (s part : Tree) → Contains (nodes_in t) s → Contains (inner_parts s) part
      → is_named (kind_of part) ≡ true → passes (kind_of s) (kind_of part) ≡ false

-- each type and each expression of the declarations of each package (`parts_in`) is one
abbrev pub PartsAreBuilt : ModuleData → Type 0
PartsAreBuilt m = (k : ℕ) (p : PackageData) → slice_get m.packages k ≡ Some p
    → (t : Tree) → Contains (parts_in p) t → IsBuilt t

-- SPECS

-- by what is declared: behind the names of constants stand values and no type; behind those of variables, types and
-- aliases a type and no values
abbrev pub IsBuiltSpec : ObjKind → (types values : List Tree) → Type 0
IsBuiltSpec Const [] (value ∷ values) = Unit {0}
IsBuiltSpec Var (type ∷ []) [] = Unit {0}
IsBuiltSpec Defined (type ∷ []) [] = Unit {0}
IsBuiltSpec Alias (type ∷ []) [] = Unit {0}
IsBuiltSpec kind types values = ⊥

-- so of the specs of each package
abbrev pub SpecsAreBuilt : ModuleData → Type 0
SpecsAreBuilt m = (k : ℕ) (p : PackageData) → slice_get m.packages k ≡ Some p
    → (spec : Spec) → Contains (specs_of p) spec → IsBuiltSpec spec.kind spec.types spec.values
