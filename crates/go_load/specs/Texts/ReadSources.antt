-- What is read of a Go file.
use Rattle.std.specs.Prelude.{◌≡◌, ◌≢◌, ℕ, List, [], ◌∷◌}
use Rattle.go_base.specs.declared.rule.Broken.{Broken as BrokenRule}
use Rattle.go_tree.specs.Tree.{tree_of}
use Rattle.go_text.specs.Files.{IsFileOf}
use Rattle.go_load.specs.Sources.{SourceBreaks}
use Rattle.go_load.specs.declared.source.ReadSource.{ReadSource}
use Rattle.go_load.specs.declared.source.ReadSource.TheVariants.{Whole, Broken}

-- the one rule is told
abbrev pub IsOneBroken : BrokenRule → ReadSource → Type 0
IsOneBroken broken (Whole file) = ⊥
IsOneBroken broken (Broken list) = list.items ≡ broken ∷ []

-- the file's tree, with the numbers from the first one on, where it breaks nothing by itself; else all that it breaks
abbrev pub IsSource : List ℕ → List ℕ → ℕ → ℕ → ReadSource → Type 0
IsSource path bytes number first (Whole file) = (file.number ≡ number) × IsFileOf bytes first (tree_of file.root) × SourceBreaks number first path bytes []
IsSource path bytes number first (Broken list) = (list.items ≢ []) × SourceBreaks number first path bytes list.items
