-- The phases of the check of a module whose files are read; Package initialization (Go specification).
-- Decides which report a module has. The packages are taken in import order; of each the first phase that
-- breaks a rule ends it: names, then type declarations that lead back to themselves, then values. What the phases
-- before break: `Loading` of go_load; names: `Names` of go_module; type declarations: `Shapes` of go_cycles; values:
-- `Rules`, `ByValue` and `Obliged`; the lines of an accepted package: `PackageLines`.
-- Files are known by their numbers, which differ in each module that is loaded.
use Rattle.std.specs.Prelude.{◌≡◌, ℕ, ◌+◌, ◌↔◌, Bool, true, false, Option, None, Some, List, [], ◌∷◌, ◌++◌, Contains, map}
use Rattle.std.specs.List.{list_all}
use Rattle.std.specs.Map.{lookup}
use Rattle.go_base.specs.declared.ids.ObjId.{ObjId}
use Rattle.go_base.specs.declared.rule.Broken.{Broken}
use Rattle.go_tree.specs.declared.node.NodeId.{NodeId}
use Rattle.go_module.specs.Names.Declarations.{Declaration, declarations_of}
use Rattle.go_module.specs.Order.{IsListOf}
use Rattle.go_values.specs.Headers.{Known}
use Rattle.go_judge.specs.Naming.{Naming}
use Rattle.go_model.specs.Naming.{names_in, uses_table}
use Rattle.go_module.specs.Modules.Module.{ModuleData, PackageData}
use Rattle.go_report.specs.Outline.{outline_of}
use Rattle.go_report.specs.PackageLines.{AreLines, named_in}
use Rattle.go_module.specs.Graph.{is_marked}
use Rattle.go_module.specs.Places.{placed_by}
use Rattle.go_judge.specs.Records.{HeaderData}
use Rattle.go_model.specs.Obligations.Obliged.{Obliged}
use Rattle.go_judge.specs.Headers.{Headers}
use Rattle.go_model.specs.Outcomes.Walk.{outcome}
use Rattle.go_report.specs.Report.{LineData, VerdictData, accepted, refused, skipped, PackageReportData, ReportData}
use Rattle.go_values.specs.ByValue.{Contained, broken_contained}
use Rattle.go_values.specs.Rules.{broken_values}
use Rattle.go_module.specs.Scopes.{same_node}
use Rattle.go_values.specs.Waiting.{Chain}
use Rattle.go_cycles.specs.Shapes.{AreShapes}
use Rattle.go_module.specs.Names.Rules.BrokenNames.{broken_names}
use Rattle.go_module.specs.Names.Imports.{known_in}

-- the headers that are known, those before and those of a package's declarations; and which declarations wait for
-- themselves
pub record HasHeaders (before : Headers) (naming : Naming) (declarations : List Declaration) (headers : Headers) (cyclic : ℕ → Bool) : Type 0 where
  pub known : (d : ℕ) (h : HeaderData) → (headers d ≡ Some h) ↔ Known before naming declarations d h
  pub is_cyclic : (d : ℕ) → (cyclic d ≡ true) ↔ Chain naming declarations headers d d

-- what identifiers of the package at a place denote
abbrev pub denoted_in : ModuleData → ℕ → PackageData → NodeId → Option ObjId
denoted_in m k p id = lookup (same_node id) (uses_table m k p)

-- what the type declarations of a package whose names are sound break by these alone, as one list
pub record BreaksShapes (m : ModuleData) (k : ℕ) (p : PackageData) (list : List Broken) : Type 0 where
  pub sound_names : broken_names (known_in m) k p ≡ []
  pub are_shapes : AreShapes (denoted_in m k p) p list

-- what the values of a package break, as one list
pub record BreaksValues (m : ModuleData) (k : ℕ) (p : PackageData) (before headers : Headers) (list : List Broken) : Type 0 where
  pub sound_shapes : BreaksShapes m k p []
  pub cyclic : ℕ → Bool
  pub has_headers : HasHeaders before (names_in m k p) (declarations_of p) headers cyclic
  pub contained : ℕ → Bool
  pub is_contained : (d : ℕ) → (contained d ≡ true) ↔ Contained (declarations_of p) headers d
  pub obliged : List Broken
  pub is_obliged : (b : Broken) → Contains obliged b ↔ Obliged (outcome (names_in m k p) headers) headers p b
  pub is_list : IsListOf (broken_values (names_in m k p) headers cyclic p ++ (broken_contained contained p ++ obliged)) list

-- the lines of the package at a place, over these headers
abbrev pub ArePackageLines : ModuleData → ℕ → PackageData → Headers → List LineData → Type 0
ArePackageLines m k p headers lines = AreLines (outline_of m) k p (denoted_in m k p) (names_in m k p) headers lines

-- the verdict on the package at a place, whose imports are accepted, and the headers that are known behind it: those of
-- a package whose names and type declarations are sound too, accepted or not
pub data IsVerdict (m : ModuleData) (k : ℕ) (p : PackageData) (before : Headers) : VerdictData → Headers → Type 0 where
  by_names : (b : Broken) (bs : List Broken) → IsListOf (broken_names (known_in m) k p) (b ∷ bs)
      → IsVerdict m k p before (refused (map (placed_by p) (b ∷ bs))) before
  by_shapes : (b : Broken) (bs : List Broken) → BreaksShapes m k p (b ∷ bs)
      → IsVerdict m k p before (refused (map (placed_by p) (b ∷ bs))) before
  by_values : (headers : Headers) (b : Broken) (bs : List Broken) → BreaksValues m k p before headers (b ∷ bs)
      → IsVerdict m k p before (refused (map (placed_by p) (b ∷ bs))) headers
  sound : (headers : Headers) (lines : List LineData) → BreaksValues m k p before headers [] → ArePackageLines m k p headers lines
      → IsVerdict m k p before (accepted lines (named_in (outline_of m) lines)) headers

abbrev pub is_accepted : VerdictData → Bool
is_accepted (accepted lines named) = true
is_accepted (refused list) = false
is_accepted skipped = false

abbrev pub imports_accepted : List Bool → PackageData → Bool
imports_accepted marks p = list_all (is_marked marks) p.imports

abbrev pub package_report : PackageData → VerdictData → PackageReportData
package_report p verdict = record { path = p.path; name = p.name; verdict = verdict }

-- no header is known
abbrev pub no_headers : Headers
no_headers d = None

-- the reports of packages, of which the first has the place k: the marks say which before it are accepted.
-- A package is skipped where one that it imports is not
pub data AreReports (m : ModuleData) : ℕ → List Bool → Headers → List PackageData → List PackageReportData → Type 0 where
  all_told : (k : ℕ) (marks : List Bool) (before : Headers) → AreReports m k marks before [] []
  skips : (k : ℕ) (marks : List Bool) (before : Headers) (p : PackageData) (ps : List PackageData) (rs : List PackageReportData)
      → imports_accepted marks p ≡ false → AreReports m (k + 1) (marks ++ false ∷ []) before ps rs
      → AreReports m k marks before (p ∷ ps) (package_report p skipped ∷ rs)
  checks : (k : ℕ) (marks : List Bool) (before after : Headers) (verdict : VerdictData) (p : PackageData) (ps : List PackageData) (rs : List PackageReportData)
      → imports_accepted marks p ≡ true → IsVerdict m k p before verdict after → AreReports m (k + 1) (marks ++ is_accepted verdict ∷ []) after ps rs
      → AreReports m k marks before (p ∷ ps) (package_report p verdict ∷ rs)

-- the report of a module whose files break no rule of the phases before
pub record ReportOf (m : ModuleData) (report : ReportData) : Type 0 where
  pub path_is : report.path ≡ m.path
  pub version_is : report.version ≡ m.version
  pub first_is : report.first ≡ []
  pub packages : AreReports m 0 [] no_headers m.packages report.packages
