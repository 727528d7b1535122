-- Lists that have each of their paths once.
-- Says which list paths leave that are added one after another.
use Rattle.std.specs.Prelude.{ℕ, Bool, if◌then◌else◌, List, [], ◌∷◌, ◌++◌, Option, None, Some, position, slice_set}
use Rattle.go_graph.specs.Graph.{row_at}
use Rattle.go_module.specs.Modules.Heads.{FileHead}
use Rattle.go_module.specs.Modules.Paths.{same_text, has_path}
use Rattle.go_module.specs.Modules.Packages.{imports_of}

-- the path stands last, unless the list has it
abbrev pub with_path : List (List ℕ) → List ℕ → List (List ℕ)
with_path paths path = if has_path paths path then paths else paths ++ path ∷ []

-- the first place of a path
abbrev pub place_of : List (List ℕ) → List ℕ → Option ℕ
place_of paths path = position (same_text path) paths

-- the place of a home, if there is one
abbrev pub home_place : List (List ℕ) → Option (List ℕ) → Option ℕ
home_place paths None = None
home_place paths (Some path) = place_of paths path

-- a number behind those of the row at a place, if there is one
abbrev pub put_in : List (List ℕ) → Option ℕ → ℕ → List (List ℕ)
put_in rows None number = rows
put_in rows (Some k) number = slice_set rows k (row_at rows k ++ number ∷ [])

-- what imports name, by the flags and the files of the packages
abbrev pub imports_by : List (List ℕ) → List Bool → List FileHead → List Bool → List (List ℕ) → List (List ℕ)
imports_by paths stubs heads [] files = []
imports_by paths stubs heads (flag ∷ flags) [] = []
imports_by paths stubs heads (flag ∷ flags) (row ∷ files) = imports_of paths stubs heads flag row ∷ imports_by paths stubs heads flags files
