-- Trees of files.
-- Decides what the calls on a tree answer: the paths below a root, and the bytes of a file.
use Rattle.std.specs.Prelude.{◌≡◌, ℕ, ◌&&◌, Bool, List, [], AllPairs}
use Rattle.std.specs.Prelude.{filter, find, map, nat_eq, option_map, unwrap_or}
use Rattle.std.specs.Cmp.Lexicographic.{pointwise}
use Rattle.go_base.specs.declared.tree.MemFile.{MemFile}

-- the file lies below that root
abbrev pub is_below : List ℕ → MemFile → Bool
is_below root file = pointwise nat_eq file.root root

-- the file lies below that root at that path
abbrev pub is_file : List ℕ → List ℕ → MemFile → Bool
is_file root path file = is_below root file && pointwise nat_eq file.path path

-- the paths of all files below the root
abbrev pub paths_of : List MemFile → List ℕ → List (List ℕ)
paths_of files root = map (λ file. file.path) (filter (is_below root) files)

-- the bytes of the file, or none where there is no such file
abbrev pub bytes_of : List MemFile → List ℕ → List ℕ → List ℕ
bytes_of files root path =
    unwrap_or (option_map (λ file. file.bytes) (find (is_file root path) files)) []

-- both are files of one root and one path
pub record IsSamePlace (a b : MemFile) : Type 0 where
  pub root : a.root ≡ b.root
  pub path : a.path ≡ b.path

-- the paths of each root are distinct
abbrev pub HasDistinctPaths : List MemFile → Type 0
HasDistinctPaths files = AllPairs (λ a b. IsSamePlace a b → ⊥) files
