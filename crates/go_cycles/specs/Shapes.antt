-- Type declarations; Interface types (Go specification).
-- Decides which type definitions and aliases of a package break the rules C4 and C5: those whose chain of right sides
-- returns, and those that are embedded in themselves.
use Rattle.std.specs.Prelude.{◌≡◌, ◌↔◌, ℕ, ◌&&◌, Bool, true, not, Option, List, ◌++◌, map}
use Rattle.std.specs.List.{flat_map}
use Rattle.indexmap.specs.IndexMap.{get}
use Rattle.go_base.specs.declared.ids.ObjId.{ObjId}
use Rattle.go_base.specs.declared.rule.Broken.{Broken}
use Rattle.go_base.specs.declared.rule.Rule.{Rule}
use Rattle.go_base.specs.declared.rule.Family.TheVariants.{C}
use Rattle.go_tree.specs.declared.node.NodeId.{NodeId}
use Rattle.go_tree.specs.Tree.{start_of}
use Rattle.go_module.specs.declared.scopes.Scopes.{Scopes}
use Rattle.go_module.specs.Broken.{broken_at, told_if}
use Rattle.go_module.specs.Modules.Module.{PackageData}
use Rattle.go_module.specs.Names.Declarations.{Declaration, number_of}
use Rattle.go_module.specs.Order.{IsListOf}
use Rattle.go_module.specs.Places.{with_number}
use Rattle.go_module.specs.Scopes.{same_node}
use Rattle.go_cycles.specs.declared.leading.Way.TheVariants.{Naming, Embedding}
use Rattle.go_cycles.specs.Leading.{GoesOn, Leads, Path, types_of}

abbrev pub cyclic_definition : Rule
cyclic_definition = record { family = C; number = 4 }

abbrev pub cyclic_embedding : Rule
cyclic_embedding = record { family = C; number = 5 }

-- by what identifiers denote, among these type definitions and aliases
module _ (denotes : NodeId → Option ObjId) (types : List Declaration) where
  -- the right side of d, parentheses aside, is the name of e
  abbrev pub LeadsTo : ℕ → ℕ → Type 0
  LeadsTo d e = Leads denotes types Naming d e

  -- the chain of right sides from d returns: following such names never ends
  abbrev pub Returns : ℕ → Type 0
  Returns d = (n : ℕ) → GoesOn LeadsTo n d

  -- the right side of d, parentheses aside, is the name of e, or an interface literal that embeds it
  abbrev pub EmbedStep : ℕ → ℕ → Type 0
  EmbedStep d e = Leads denotes types Embedding d e

  -- "contains, or embeds", "directly or indirectly"
  abbrev pub Embeds : ℕ → ℕ → Type 0
  Embeds d e = Path EmbedStep d e

-- what a type definition or an alias breaks, told at its name
abbrev pub broken_shape : Bool → Bool → Declaration → List Broken
broken_shape returns embeds d =
    told_if returns (broken_at d.file (start_of d.name) cyclic_definition)
    ++ told_if (embeds && not returns) (broken_at d.file (start_of d.name) cyclic_embedding)

-- what these break, by the places of their files
abbrev pub broken_in : (ℕ → Bool) → (ℕ → Bool) → List Declaration → List Broken
broken_in returns embeds types = flat_map (λ d. broken_shape (returns (number_of d).0) (embeds (number_of d).0) d) types

-- what those of a package break, in any order
abbrev pub broken_shapes : (ℕ → Bool) → (ℕ → Bool) → PackageData → List Broken
broken_shapes returns embeds p = map (with_number p.files) (broken_in returns embeds (types_of p))

-- the list of a report has exactly what the type definitions and aliases of a package break
pub record AreShapes (denotes : NodeId → Option ObjId) (p : PackageData) (list : List Broken) : Type 0 where
  pub returns : ℕ → Bool
  pub embeds : ℕ → Bool
  pub is_return : (d : ℕ) → (returns d ≡ true) ↔ Returns denotes (types_of p) d
  pub is_embedding : (d : ℕ) → (embeds d ≡ true) ↔ Embeds denotes (types_of p) d d
  pub is_list : IsListOf (broken_shapes returns embeds p) list

-- what identifiers denote by scopes
abbrev pub denoted_by : Scopes → NodeId → Option ObjId
denoted_by scopes id = get same_node scopes.uses id
