-- Folders that have a go.mod of their own.
-- Says which folders a list has, and of which folder a path is the go.mod.
use Rattle.std.specs.Prelude.{ℕ, ◌&&◌, Bool, List, ◌++◌, codes, length, nat_eq, nat_lt}
use Rattle.std.specs.Cmp.Lexicographic.{pointwise}
use Rattle.std.specs.List.{list_any}

abbrev pub is_one : List (List ℕ) → List ℕ → Bool
is_one folders folder = list_any (pointwise nat_eq folder) folders

-- the path is the go.mod of the folder, which is not the root
abbrev pub is_own_module_file : List ℕ → List ℕ → Bool
is_own_module_file folder path =
    nat_lt 0 (length folder) && pointwise nat_eq (folder ++ codes "/go.mod") path
