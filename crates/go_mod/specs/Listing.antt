-- The Go files of a module.
-- Decides which paths of the files below a root count, by their names and by those of their folders.
use Rattle.std.specs.Prelude.{ℕ, ◌&&◌, ◌||◌, Bool, not, List, ◌++◌, codes, length, nat_eq, nat_lt}
use Rattle.std.specs.Cmp.Lexicographic.{pointwise}
use Rattle.std.specs.List.{ends_with, list_any, starts_with}
use Rattle.go_module.specs.Modules.PathParts.{folders, last_element}

-- a name that begins with `_` or `.`
abbrev pub is_hidden : List ℕ → Bool
is_hidden name = starts_with nat_eq name (codes "_") || starts_with nat_eq name (codes ".")

-- the name of a file of Go that is no test
abbrev pub is_go_name : List ℕ → Bool
is_go_name name =
    ends_with nat_eq name (codes ".go")
    && not (ends_with nat_eq name (codes "_test.go"))
    && not (is_hidden name)

-- a folder that is skipped by its name
abbrev pub is_skipped_name : List ℕ → Bool
is_skipped_name name =
    pointwise nat_eq name (codes "testdata") || pointwise nat_eq name (codes "vendor")
    || is_hidden name

-- the folder, which is not the root, has a go.mod of its own among the paths
abbrev pub has_own_module : List (List ℕ) → List ℕ → Bool
has_own_module paths folder =
    nat_lt 0 (length folder) && list_any (pointwise nat_eq (folder ++ codes "/go.mod")) paths

-- what lies in the folder is no part of the module
abbrev pub is_left_out : List (List ℕ) → List ℕ → Bool
is_left_out paths folder = is_skipped_name (last_element folder) || has_own_module paths folder

-- the path is that of a Go file of the module
abbrev pub counts : List (List ℕ) → List ℕ → Bool
counts paths path =
    is_go_name (last_element path) && not (list_any (is_left_out paths) (folders path))
