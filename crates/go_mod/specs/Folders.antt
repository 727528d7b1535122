-- Source file organization (Go specification).
-- Decides what is seen of the files below a root, which of them are the Go files of a module, and what is
-- read of them.
use Rattle.std.specs.Prelude.{◌≡◌, ℕ, suc, ◌↔◌, Bool, true, false, List, [], ◌++◌, Option, None, Some, IfSome, map, take, Contains}
use Rattle.std.specs.Cmp.Lexicographic.{slice_cmp}
use Rattle.std.specs.List.Sorted.{IsStrictlySortedBy}
use Rattle.std.specs.Ordering.{nat_cmp}
use Rattle.go_base.specs.declared.tree.MemFile.{MemFile}
use Rattle.go_base.specs.Tree.{paths_of, bytes_of}
use Rattle.go_mod.specs.Listing.{counts}
use Rattle.go_module.specs.Modules.Texts.{SourceText}

-- the most bytes that a file may have
abbrev pub most_bytes : ℕ
most_bytes = 16777216

-- a folder: the paths of all files below it, and the bytes of the file at each path
pub record Folder : Type 0 where
  pub paths : List (List ℕ)
  pub bytes : List ℕ → List ℕ

-- own: each file counts with one byte more than a file may have, so that a longer one shows;
-- of go.mod nothing past that is read
abbrev pub folder_of : List MemFile → List ℕ → Folder
folder_of files root = record { paths = paths_of files root; bytes = λ path. take (suc most_bytes) (bytes_of files root path) }

-- no files
abbrev pub no_folder : Folder
no_folder = record { paths = []; bytes = λ path. [] }

-- the folder is what a tree has below the root, where the tree tells its files
abbrev pub IsBelow : Option (List MemFile) → List ℕ → Folder → Type 0
IsBelow told root folder = IfSome told (λ files. folder ≡ folder_of files root)

-- the same, where there may be no root
abbrev pub IsBelowSome : Option (List MemFile) → Option (List ℕ) → Folder → Type 0
IsBelowSome told None folder = folder ≡ no_folder
IsBelowSome told (Some root) folder = IsBelow told root folder

-- the paths that count, in strictly ascending byte order
pub record AreGoFiles (folder : Folder) (paths : List (List ℕ)) : Type 0 where
  pub ascending : IsStrictlySortedBy (slice_cmp nat_cmp) paths
  pub same : (path : List ℕ) → Contains paths path ↔ (Contains folder.paths path × (counts folder.paths path ≡ true))

abbrev pub texts_at : Bool → Folder → List (List ℕ) → List SourceText
texts_at stub folder paths = map (λ path. record { stub = stub; path = path; bytes = folder.bytes path }) paths

-- the Go files of the module, and then those of the stubs
pub record AreTexts (own stubs : Folder) (texts : List SourceText) : Type 0 where
  pub own_paths : List (List ℕ)
  pub are_own : AreGoFiles own own_paths
  pub stub_paths : List (List ℕ)
  pub are_stubs : AreGoFiles stubs stub_paths
  pub texts_are : texts ≡ texts_at false own own_paths ++ texts_at true stubs stub_paths
