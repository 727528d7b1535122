-- Declarations and scope; Constant expressions; Types; Packages; Package initialization (Go specification).
-- Says which nodes of an expression or a type are asked for records, what it is that a package is complete, and through
-- which states the check of a module goes.
use Rattle.std.specs.Prelude.{◌≡◌, ℕ, ◌+◌, Bool, true, false, Some, List, [], ◌∷◌, ◌++◌, Contains, IsSome, slice_get}
use Rattle.std.specs.List.{flat_map}
use Rattle.go_graph.specs.Graph.{row_at}
use Rattle.go_tree.specs.Tree.{Tree}
use Rattle.go_module.specs.Modules.Module.{ModuleData, PackageData}
use Rattle.go_module.specs.Names.Declarations.{Declaration, declarations_of, number_of, specs_of}
use Rattle.go_operands.specs.Operands.{folded}
use Rattle.go_judge.specs.Naming.{Naming}
use Rattle.go_judge.specs.Headers.{Headers}
use Rattle.go_model.specs.Outcomes.Walk.{construct}
use Rattle.go_report.specs.Phases.{IsVerdict, imports_accepted, is_accepted, no_headers}
use Rattle.go_report.specs.Report.{LineData, NamedData, VerdictData, accepted}
use Rattle.go_values.specs.Records.{record_of}

-- the nodes that are asked in a node, by those in each of its operands: itself, and those in the operands that its
-- construct asks
abbrev pub with_asked : Naming → Tree → List (List Tree) → List Tree
with_asked naming node operands = node ∷ flat_map (row_at operands) (construct naming node).operands

-- the nodes of an expression or a type that are asked for records: itself, and those of its operands
abbrev pub asked_in : Naming → Tree → List Tree
asked_in naming t = (folded (with_asked naming) t).own

-- the types and the expressions of the declarations of a package, with the copies that stand for omitted lists
abbrev pub parts_in : PackageData → List Tree
parts_in p = flat_map (λ spec. spec.types ++ spec.values) (specs_of p)

-- each declaration of the package has a header, and each node of its types and its expressions that is asked for a record
-- has one
pub record IsComplete (naming : Naming) (headers : Headers) (p : PackageData) : Type 0 where
  pub declared : (d : Declaration) → Contains (declarations_of p) d → IsSome (headers (number_of d).0)
  pub recorded : (t : Tree) → Contains (parts_in p) t → (s : Tree) → Contains (asked_in naming t) s
      → IsSome (record_of naming headers s)

-- STATES OF THE CHECK

-- each package before a place is checked, or skipped since one that it imports is not accepted: the marks say which are
-- accepted, and these headers are known
pub data IsReached (m : ModuleData) : ℕ → List Bool → Headers → Type 0 where
  first : IsReached m 0 [] no_headers
  skips : (k : ℕ) (marks : List Bool) (before : Headers) (p : PackageData)
      → IsReached m k marks before → slice_get m.packages k ≡ Some p → imports_accepted marks p ≡ false
      → IsReached m (k + 1) (marks ++ false ∷ []) before
  checks : (k : ℕ) (marks : List Bool) (before after : Headers) (verdict : VerdictData) (p : PackageData)
      → IsReached m k marks before → slice_get m.packages k ≡ Some p → imports_accepted marks p ≡ true
      → IsVerdict m k p before verdict after
      → IsReached m (k + 1) (marks ++ is_accepted verdict ∷ []) after

-- the check of a module comes to this place with marks by which the imports of this package are accepted, and the
-- package is accepted there with this verdict; that it is the module's package at that place is not said
pub record IsAcceptedAt (m : ModuleData) (k : ℕ) (p : PackageData) (verdict : VerdictData) : Type 0 where
  pub marks : List Bool
  pub before : Headers
  pub after : Headers
  pub lines : List LineData
  pub named : List NamedData
  pub is : verdict ≡ accepted lines named
  pub reached : IsReached m k marks before
  pub imports : imports_accepted marks p ≡ true
  pub verdict_is : IsVerdict m k p before (accepted lines named) after
