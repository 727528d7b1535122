-- The packages of a module and of its stubs.
-- Decides which packages there are, which files each has, what its imports name, and which packages are
-- reached. A package is known by its place among the paths, a file by its place among the heads.
use Rattle.std.specs.Prelude.{◌≡◌, ℕ, Bool, true, false, not, ◌&&◌, ◌↔◌, if◌then◌else◌, List, [], Option, None, Some, length, map, filter, position, slice_get, unwrap_or, Contains}
use Rattle.std.specs.Option.{option_map_or}
use Rattle.std.specs.Cmp.Lexicographic.{slice_cmp}
use Rattle.std.specs.List.{flat_map, filter_map, range_with_len}
use Rattle.std.specs.List.Sorted.{IsStrictlySortedBy}
use Rattle.std.specs.Ordering.{nat_cmp}
use Rattle.go_graph.specs.Graph.{ReachedFrom, is_marked}
use Rattle.go_module.specs.Modules.Heads.{FileHead, ImportSpec}
use Rattle.go_module.specs.Modules.Paths.{same_text, own_paths, has_path, homes}

-- the paths of packages, their flags, files and imports, and which of them are reached
pub record PackageTable : Type 0 where
  pub paths : List (List ℕ)
  pub stubs : List Bool
  pub files : List (List ℕ)
  pub imports : List (List ℕ)
  pub reached : List Bool

-- the paths of which files have one as home, in strictly ascending byte order
pub record IsPathList (homes : List (Option (List ℕ))) (paths : List (List ℕ)) : Type 0 where
  pub ascending : IsStrictlySortedBy (slice_cmp nat_cmp) paths
  pub same : (path : List ℕ) → Contains paths path ↔ Contains homes (Some path)

-- whether this is the home
abbrev pub is_home : List ℕ → Option (List ℕ) → Bool
is_home path None = false
is_home path (Some other) = same_text path other

-- the numbers of the files whose home is the path, in their order
abbrev pub files_of : List (Option (List ℕ)) → List ℕ → List ℕ
files_of homes path = filter (λ i. is_home path (unwrap_or (slice_get homes i) None)) (range_with_len 0 (length homes))

-- the package at a place, but from a stub nothing that is no stub
abbrev pub visible : List Bool → Bool → Option ℕ → Option ℕ
visible stubs from_stub None = None
visible stubs from_stub (Some k) = if from_stub && not (is_marked stubs k) then None else Some k

-- the package that a path names in an import of a stub, or of a package that is no stub
abbrev pub named : List (List ℕ) → List Bool → Bool → List ℕ → Option ℕ
named paths stubs from_stub path = visible stubs from_stub (position (same_text path) paths)

-- the imports of these files, file after file
abbrev pub imports_at : List FileHead → ℕ → List ImportSpec
imports_at heads i = option_map_or (λ head. head.imports) (slice_get heads i) []

abbrev pub imports_in : List FileHead → List ℕ → List ImportSpec
imports_in heads files = flat_map (imports_at heads) files

-- the packages that imports name, one after another
abbrev pub all_named : List (List ℕ) → List Bool → Bool → List ImportSpec → List ℕ
all_named paths stubs from_stub imports = filter_map (λ spec. named paths stubs from_stub spec.path) imports

-- the packages that the imports of these files name
abbrev pub imports_of : List (List ℕ) → List Bool → List FileHead → Bool → List ℕ → List ℕ
imports_of paths stubs heads from_stub files = all_named paths stubs from_stub (imports_in heads files)

-- a package that is no stub
abbrev pub IsOwn : List Bool → ℕ → Type 0
IsOwn stubs k = slice_get stubs k ≡ Some false

-- a package that is no stub, or one that a reached package imports
abbrev pub Reached : List Bool → List (List ℕ) → ℕ → Type 0
Reached stubs imports = ReachedFrom imports (IsOwn stubs)

pub record IsTableOf (module_path : List ℕ) (heads : List FileHead) (t : PackageTable) : Type 0 where
  pub paths : IsPathList (homes module_path (own_paths module_path heads) heads) t.paths
  pub stubs : t.stubs ≡ map (λ path. not (has_path (own_paths module_path heads) path)) t.paths
  pub files : t.files ≡ map (files_of (homes module_path (own_paths module_path heads) heads)) t.paths
  pub imports : t.imports ≡ map (λ path. imports_of t.paths t.stubs heads (not (has_path (own_paths module_path heads) path)) (files_of (homes module_path (own_paths module_path heads) heads) path)) t.paths
  pub reached_length : length t.reached ≡ length t.paths
  pub reached : (k : ℕ) → (is_marked t.reached k ≡ true) ↔ Reached t.stubs t.imports k
