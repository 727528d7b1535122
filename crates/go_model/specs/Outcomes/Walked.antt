-- Expressions (Go specification).
-- Says what walks over expressions leave: of each node the outcome in the last walk that reached it, by the node's number;
-- and where a number tells its node.
use Rattle.std.specs.Prelude.{◌≡◌, ℕ, ◌==◌, Some, List, [], ◌∷◌, Contains, if◌then◌else◌, slice_get}
use Rattle.std.specs.List.{flat_map}
use Rattle.go_tree.specs.Tree.{Tree, id_of}
use Rattle.go_module.specs.Modules.Module.{ModuleData, PackageData}
use Rattle.go_module.specs.Names.Declarations.{specs_of}
use Rattle.go_operands.specs.Operands.{expressions_in_parts}
use Rattle.go_judge.specs.Naming.{Naming}
use Rattle.go_judge.specs.Headers.{Headers, Outcomes}
use Rattle.go_model.specs.Outcomes.Walk.{outcome}

-- behind a walk that reached these nodes: at the number of a node its outcome, of several with one number that of the
-- first; a number of none of them keeps what it had
abbrev pub walked_over : Naming → Headers → List Tree → Outcomes → Outcomes
walked_over naming headers [] before n = before n
walked_over naming headers (t ∷ ts) before n = if id_of t == n then Some (outcome naming headers t) else walked_over naming headers ts before n

-- what a number has behind a walk over these nodes that broke off: what it had, or the outcome of one of the nodes
pub data IsLeft (naming : Naming) (headers : Headers) (nodes : List Tree) (before after : Outcomes) (n : ℕ) : Type 0 where
  as_before : after n ≡ before n → IsLeft naming headers nodes before after n
  of_node : (t : Tree) → Contains nodes t → id_of t ≡ n → after n ≡ Some (outcome naming headers t) → IsLeft naming headers nodes before after n

abbrev pub ArePartly : Naming → Headers → List Tree → Outcomes → Outcomes → Type 0
ArePartly naming headers nodes before after = (n : ℕ) → IsLeft naming headers nodes before after n

-- each of these nodes has its outcome over the headers
abbrev pub AreWalked : Naming → Headers → List Tree → Outcomes → Type 0
AreWalked naming headers nodes outcomes = (t : Tree) → Contains nodes t → outcomes (id_of t) ≡ Some (outcome naming headers t)

-- no two of these nodes have one number
abbrev pub AreNumbered : List Tree → Type 0
AreNumbered nodes = (s t : Tree) → Contains nodes s → Contains nodes t → id_of s ≡ id_of t → s ≡ t

-- the nodes of the types and the expressions of a package's declarations
abbrev pub nodes_of : PackageData → List Tree
nodes_of p = flat_map expressions_in_parts (specs_of p)

-- no two of these nodes have one number, package by package
abbrev pub NodesAreNumbered : ModuleData → Type 0
NodesAreNumbered m = (k : ℕ) (p : PackageData) → slice_get m.packages k ≡ Some p → AreNumbered (nodes_of p)
