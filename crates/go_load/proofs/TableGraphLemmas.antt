-- The imports of a table of packages as a graph, and the rows of a table.
use Rattle.std.proofs.Common.{◌≡◌, ℕ, ◌<◌, Bool, false, not, List, [], Some, length, get_or, ap, ◌∙◌, sym}
use Rattle.std.specs.Prelude.{slice_get, unwrap_or}
use Rattle.std.specs.Option.{option_map}
use Rattle.std.proofs.lemmas.List.{length-map}
use Rattle.std.proofs.lemmas.Option.{slice_get-get_or, slice_get-map}
use Rattle.go_module.specs.Modules.Heads.{FileHead}
use Rattle.go_module.specs.Modules.Packages.{PackageTable, IsTableOf, files_of, imports_of}
use Rattle.go_graph.specs.Graph.{is_marked, IsGraph, row_at}
use Rattle.go_module.specs.Modules.Paths.{has_path, homes, own_paths}
use Rattle.go_load.proofs.TableLemmas.{imports_graph}

module _ (module_path : List ℕ) (heads : List FileHead) (t : PackageTable) (table : IsTableOf module_path heads t) where
  abbrev is_stub : List ℕ → Bool
  is_stub path = not (has_path (own_paths module_path heads) path)

  abbrev files_at : List ℕ → List ℕ
  files_at path = files_of (homes module_path (own_paths module_path heads) heads) path

  abbrev imports_at_path : List ℕ → List ℕ
  imports_at_path path = imports_of t.paths t.stubs heads (is_stub path) (files_at path)

  -- what the imports of a table name are packages of it
  pub table_graph : IsGraph t.imports
  table_graph = imports_graph t.paths t.stubs heads is_stub files_at t.imports table.imports

  pub stubs_length : length t.stubs ≡ length t.paths
  stubs_length = ap length table.stubs ∙ length-map t.paths is_stub

  pub files_length : length t.files ≡ length t.paths
  files_length = ap length table.files ∙ length-map t.paths files_at

  pub imports_length : length t.imports ≡ length t.paths
  imports_length = ap length table.imports ∙ length-map t.paths imports_at_path

  row_of : (k : ℕ) (path : List ℕ) → slice_get t.paths k ≡ Some path → slice_get t.imports k ≡ Some (imports_of t.paths t.stubs heads (is_marked t.stubs k) (row_at t.files k))
  row_of k path at =
      let stub : is_marked t.stubs k ≡ is_stub path = ap (λ (stubs : List Bool). is_marked stubs k) table.stubs ∙ ap (λ o. unwrap_or o false) (slice_get-map is_stub t.paths k ∙ ap (option_map is_stub) at) in
      let files : row_at t.files k ≡ files_at path = ap (λ (rows : List (List ℕ)). row_at rows k) table.files ∙ ap (λ o. unwrap_or o []) (slice_get-map files_at t.paths k ∙ ap (option_map files_at) at) in
      ap (λ (rows : List (List ℕ)). slice_get rows k) table.imports
      ∙ slice_get-map imports_at_path t.paths k
      ∙ ap (option_map imports_at_path) at
      ∙ (λ i. Some (imports_of t.paths t.stubs heads (sym stub i) (sym files i)))

  -- the row of a package: what the imports of its files name
  pub table_row : (k : ℕ) → k < length t.paths → slice_get t.imports k ≡ Some (imports_of t.paths t.stubs heads (is_marked t.stubs k) (row_at t.files k))
  table_row k lt = row_of k (get_or t.paths k []) (slice_get-get_or t.paths k [] lt)
