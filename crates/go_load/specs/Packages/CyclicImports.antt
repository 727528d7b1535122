-- Imports that lie on a cycle, as a walk over files and marks tells them.
-- Says what is told at each import that names a package, and what stays of it by the marks of these imports.
use Rattle.std.specs.Prelude.{ℕ, Bool, List, [], ◌∷◌, ◌++◌, if◌then◌else◌, length}
use Rattle.std.specs.Option.{is_some}
use Rattle.std.specs.List.{flat_map, range_with_len}
use Rattle.go_base.specs.declared.rule.Broken.{Broken}
use Rattle.go_module.specs.Broken.{broken_at, told_if}
use Rattle.go_module.specs.Modules.BrokenImports.{cyclic_import}
use Rattle.go_module.specs.Modules.Heads.{FileHead, ImportSpec}
use Rattle.go_module.specs.Modules.Packages.{PackageTable, named, imports_at}
use Rattle.go_graph.specs.Graph.{is_marked, row_at}

-- what an import breaks if it lies on a cycle, and nothing where it names no package
abbrev pub named_import : List (List ℕ) → List Bool → Bool → ℕ → ImportSpec → List Broken
named_import paths stubs from_stub file spec = told_if (is_some (named paths stubs from_stub spec.path)) (broken_at file spec.at cyclic_import)

-- that of the imports of a file
abbrev pub named_imports_at : List (List ℕ) → List Bool → List FileHead → Bool → ℕ → List Broken
named_imports_at paths stubs heads from_stub file = flat_map (named_import paths stubs from_stub file) (imports_at heads file)

-- that of the imports of these files: one for each package that these name
abbrev pub named_imports_in : List (List ℕ) → List Bool → List FileHead → Bool → List ℕ → List Broken
named_imports_in paths stubs heads from_stub files = flat_map (named_imports_at paths stubs heads from_stub) files

-- those whose mark is set
abbrev pub with_marks : List Broken → List Bool → List Broken
with_marks [] marks = []
with_marks (broken ∷ list) [] = []
with_marks (broken ∷ list) (mark ∷ marks) = told_if mark broken ++ with_marks list marks

-- what the imports of a package that lie on a cycle break, if it is reached
abbrev pub cyclic_if_reached : List FileHead → PackageTable → List (List Bool) → ℕ → List Broken
cyclic_if_reached heads t rows k = if is_marked t.reached k then with_marks (named_imports_in t.paths t.stubs heads (is_marked t.stubs k) (row_at t.files k)) (row_at rows k) else []

-- what those of all reached packages break
abbrev pub cyclic_in : List FileHead → PackageTable → List (List Bool) → List Broken
cyclic_in heads t rows = flat_map (cyclic_if_reached heads t rows) (range_with_len 0 (length t.paths))
