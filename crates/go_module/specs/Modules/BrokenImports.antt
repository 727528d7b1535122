-- Import declarations; Package clause; Source file organization (Go specification).
-- Decides which imports of reached packages name nothing, lie on a cycle, or lie outside the language that
-- is checked, and which reached packages have files of different packages: P1, P2, P3, U7.
use Prim.Native.Char.{code}
use Rattle.std.specs.Prelude.{◌≡◌, ◌↔◌, ℕ, Bool, true, false, not, Some, Contains, ◌||◌, ◌==◌, if◌then◌else◌, is_none, List, [], ◌∷◌, ◌++◌, length, map, slice_get, unwrap_or, codes}
use Rattle.std.specs.Option.{option_map_or}
use Rattle.std.specs.List.{flat_map, list_any, range_with_len}
use Rattle.go_base.specs.declared.rule.Broken.{Broken}
use Rattle.go_base.specs.declared.rule.Family.TheVariants.{P, U}
use Rattle.go_base.specs.declared.rule.Rule.{Rule}
use Rattle.go_module.specs.Broken.{broken_at, told_if}
use Rattle.go_module.specs.Order.{IsListOf}
use Rattle.go_module.specs.Modules.Heads.{FileHead, ImportSpec}
use Rattle.go_graph.specs.Cycles.{OnCycle}
use Rattle.go_module.specs.Modules.Paths.{same_text}
use Rattle.go_module.specs.Modules.Packages.{PackageTable, named, imports_at}
use Rattle.go_graph.specs.Graph.{is_marked}

-- an import that names no package
abbrev pub missing_package : Rule
missing_package = record { family = P; number = 1 }

-- an import on a cycle of imports
abbrev pub cyclic_import : Rule
cyclic_import = record { family = P; number = 2 }

-- files of different packages in one folder, or the blank identifier as a package name
abbrev pub mixed_package : Rule
mixed_package = record { family = P; number = 3 }

-- an import outside the language that is checked
abbrev pub special_import : Rule
special_import = record { family = U; number = 7 }

-- "If the PackageName is omitted, it defaults to the identifier specified in the package clause of the
-- imported package": there has to be one
abbrev pub is_unnamed : List (List ℕ) → List Bool → Bool → List ℕ → Bool
is_unnamed paths stubs from_stub path = length path == 0 || is_none (named paths stubs from_stub path)

abbrev pub begins_with : ℕ → List ℕ → Bool
begins_with byte [] = false
begins_with byte (b ∷ bytes) = b == byte

-- C, unsafe, and paths that begin with `.` or `/`
abbrev pub is_special : List ℕ → Bool
is_special path = same_text path (codes "C") || (same_text path (codes "unsafe") || (begins_with (code ".") path || begins_with (code "/") path))

abbrev pub broken_import : List (List ℕ) → List Bool → Bool → ℕ → ImportSpec → List Broken
broken_import paths stubs from_stub file spec =
    told_if (is_unnamed paths stubs from_stub spec.path) (broken_at file spec.at missing_package)
    ++ told_if (is_special spec.path) (broken_at file spec.at special_import)

-- what the imports of a file break
abbrev pub broken_imports_at : List (List ℕ) → List Bool → List FileHead → Bool → ℕ → List Broken
broken_imports_at paths stubs heads from_stub file = flat_map (broken_import paths stubs from_stub file) (imports_at heads file)

-- the package name of a file, and its offset
abbrev pub name_at : List FileHead → ℕ → List ℕ
name_at heads file = option_map_or (λ head. head.name) (slice_get heads file) []

abbrev pub name_place : List FileHead → ℕ → ℕ
name_place heads file = option_map_or (λ head. head.name_at) (slice_get heads file) 0

-- two of the names differ, or one is the blank identifier
abbrev pub is_mixed : List (List ℕ) → Bool
is_mixed names = list_any (λ a. list_any (λ b. not (same_text a b)) names) names || list_any (λ name. same_text name (codes "_")) names

abbrev pub broken_clauses : List FileHead → List ℕ → List Broken
broken_clauses heads files = if is_mixed (map (name_at heads) files) then map (λ file. broken_at file (name_place heads file) mixed_package) files else []

-- what a package breaks
abbrev pub broken_package : List FileHead → List (List ℕ) → List Bool → Bool → List ℕ → List Broken
broken_package heads paths stubs from_stub files = broken_clauses heads files ++ flat_map (broken_imports_at paths stubs heads from_stub) files

abbrev pub broken_if_reached : List FileHead → PackageTable → ℕ → List Broken
broken_if_reached heads t k = if is_marked t.reached k then broken_package heads t.paths t.stubs (is_marked t.stubs k) (unwrap_or (slice_get t.files k) []) else []

-- what the reached packages break
abbrev pub broken_imports_in : List FileHead → PackageTable → List Broken
broken_imports_in heads t = flat_map (broken_if_reached heads t) (range_with_len 0 (length t.paths))

-- an import of a reached package that leads back to it: "it is illegal for a package to import itself,
-- directly or indirectly"
pub record IsCyclicImport (heads : List FileHead) (t : PackageTable) (b : Broken) : Type 0 where
  pub importer : ℕ
  pub reached : is_marked t.reached importer ≡ true
  pub file : ℕ
  pub has_file : Contains (unwrap_or (slice_get t.files importer) []) file
  pub spec : ImportSpec
  pub has_import : Contains (imports_at heads file) spec
  pub imported : ℕ
  pub names : named t.paths t.stubs (is_marked t.stubs importer) spec.path ≡ Some imported
  pub cycle : OnCycle t.imports importer imported
  pub broken_is : b ≡ broken_at file spec.at cyclic_import

-- all that the imports and the package names of reached packages break, in the order of a report
pub record AreBrokenPackages (heads : List FileHead) (t : PackageTable) (list : List Broken) : Type 0 where
  pub cyclic : List Broken
  pub are_cyclic : (b : Broken) → Contains cyclic b ↔ IsCyclicImport heads t b
  pub is_list : IsListOf (broken_imports_in heads t ++ cyclic) list
