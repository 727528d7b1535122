-- Import paths of files, and the packages that files belong to.
-- Decides by its root and its folder under which path a file is imported, and which files belong to a
-- package at all.
use Rattle.std.specs.Prelude.{ℕ, Bool, not, ◌&&◌, ◌||◌, ◌==◌, if◌then◌else◌, List, Option, None, Some, length, map, filter, nat_eq}
use Rattle.std.specs.Cmp.Lexicographic.{pointwise}
use Rattle.std.specs.List.{list_any}
use Rattle.go_module.specs.Modules.PathParts.{folder_of_path, import_path_of}
use Rattle.go_module.specs.Modules.Heads.{FileHead}

abbrev pub same_text : List ℕ → List ℕ → Bool
same_text = pointwise nat_eq

-- below the root of stubs the folder itself
abbrev pub import_path : List ℕ → FileHead → List ℕ
import_path module_path head = if head.stub then folder_of_path head.path else import_path_of module_path (folder_of_path head.path)

-- the paths of the files that are no stubs
abbrev pub own_paths : List ℕ → List FileHead → List (List ℕ)
own_paths module_path heads = map (import_path module_path) (filter (λ head. not head.stub) heads)

abbrev pub has_path : List (List ℕ) → List ℕ → Bool
has_path paths path = list_any (same_text path) paths

-- a stub belongs to no package directly in its root, nor where the module has files for its path
abbrev pub belongs : List (List ℕ) → FileHead → Bool
belongs own head = not (head.stub && (length (folder_of_path head.path) == 0 || has_path own (folder_of_path head.path)))

-- the path of the package that a file belongs to
abbrev pub home : List ℕ → List (List ℕ) → FileHead → Option (List ℕ)
home module_path own head = if belongs own head then Some (import_path module_path head) else None

abbrev pub homes : List ℕ → List (List ℕ) → List FileHead → List (Option (List ℕ))
homes module_path own heads = map (home module_path own) heads
