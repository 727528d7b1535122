-- Type declarations; Interface types (Go specification).
-- Decides which type definitions and aliases of a package lead to which by their right sides, by names alone. What an
-- identifier denotes is left to whoever says it. A qualified identifier is of another package, and never leads back.
use Rattle.std.specs.Prelude.{◌≡◌, ℕ, suc, ◌==◌, Bool, true, false, if◌then◌else◌, Option, Some, List, [], ◌∷◌, ◌++◌, Contains, filter, find}
use Rattle.go_base.specs.declared.ids.ObjId.{ObjId}
use Rattle.go_tree.specs.declared.node.NodeId.{NodeId}
use Rattle.go_tree.specs.declared.node_kind.NodeKind.{NodeKind}
use Rattle.go_tree.specs.declared.node_kind.NodeKind.TheVariants.{InterfaceType, ParenExpr, TildeType, Union}
use Rattle.go_tree.specs.Tree.{Tree, branch, Trees, no_trees, more_trees, trees_of}
use Rattle.go_module.specs.declared.object.ObjKind.{ObjKind}
use Rattle.go_module.specs.declared.object.ObjKind.TheVariants.{Alias, Defined}
use Rattle.go_module.specs.Modules.Module.{PackageData}
use Rattle.go_module.specs.Names.Declarations.{Declaration, declarations_of, number_of}
use Rattle.go_module.specs.Names.Inner.{is_name_kind}
use Rattle.go_cycles.specs.declared.leading.Way.{Way}
use Rattle.go_cycles.specs.declared.leading.Way.TheVariants.{Naming, Embedding}

-- "(" Type ")"
abbrev pub is_aside : NodeKind → Bool
is_aside ParenExpr = true
is_aside kind = false

-- InterfaceType = "interface" "{" { InterfaceElem ";" } "}" . TypeElem = TypeTerm { "|" TypeTerm } .
-- UnderlyingType = "~" Type . A method embeds nothing.
abbrev pub is_embedding : NodeKind → Bool
is_embedding ParenExpr = true
is_embedding InterfaceType = true
is_embedding Union = true
is_embedding TildeType = true
is_embedding kind = false

-- whether a node of this kind stands for the types in it
abbrev pub holds : Way → NodeKind → Bool
holds Naming kind = is_aside kind
holds Embedding kind = is_embedding kind

module _ (way : Way) where
  abbrev pub names_by : NodeKind → ℕ → List NodeId → List NodeId
  names_by kind id inner = if is_name_kind kind then record { 0 = id } ∷ [] else if holds way kind then inner else []

  -- the identifiers to which a type leads: itself, where it is one, parentheses aside; and by embedding those in the
  -- elements of an interface literal, which are unions of terms: a term is a type, or behind a `~`
  abbrev mutual
    pub names_in : Tree → List NodeId
    names_in (branch id from to kind text parts) = names_by kind id (names_in_each parts)

    pub names_in_each : Trees → List NodeId
    names_in_each no_trees = []
    names_in_each (more_trees t ts) = names_in t ++ names_in_each ts

  -- those of the right side of a declaration
  abbrev pub names_of : Declaration → List NodeId
  names_of d = names_in_each (trees_of d.types)

abbrev pub is_type_kind : ObjKind → Bool
is_type_kind Defined = true
is_type_kind Alias = true
is_type_kind kind = false

abbrev pub is_type : Declaration → Bool
is_type d = is_type_kind d.kind

-- the type definitions and the aliases of a package, in the order in which they stand
abbrev pub types_of : PackageData → List Declaration
types_of p = filter is_type (declarations_of p)

-- that whose object has a number; the first, where numbers repeat, as those of a module that is loaded do not
abbrev pub declared_as : List Declaration → ℕ → Option Declaration
declared_as types d = find (λ t. (number_of t).0 == d) types

-- by what identifiers denote, among these type definitions and aliases: the right side of d leads to e
pub record Leads (denotes : NodeId → Option ObjId) (types : List Declaration) (way : Way) (d e : ℕ) : Type 0 where
  pub declaration : Declaration
  pub declared : declared_as types d ≡ Some declaration
  pub name : NodeId
  pub among : Contains (names_of way declaration) name
  pub denoted : denotes name ≡ Some (record { 0 = e })
  pub target : Declaration
  pub target_is : declared_as types e ≡ Some target

-- of steps from one number to another: one or more of them, one after another, lead from d to e
pub data Path (Step : ℕ → ℕ → Type 0) (d : ℕ) : ℕ → Type 0 where
  one : (e : ℕ) → Step d e → Path Step d e
  more : (e f : ℕ) → Path Step d e → Step e f → Path Step d f

-- so many of them, one after another, lead on from d
pub data GoesOn (Step : ℕ → ℕ → Type 0) : ℕ → ℕ → Type 0 where
  stays : (d : ℕ) → GoesOn Step 0 d
  goes : (n d e : ℕ) → Step d e → GoesOn Step n e → GoesOn Step (suc n) d
