-- Source code representation; Source file organization (Go specification).
-- Decides what each Go file of a module breaks by itself. Which rule a file without a tree breaks is left
-- to `Fault` of go_form, which rules a file breaks by its form to `Whole` there. The file is known by its number.
use Rattle.std.specs.Prelude.{◌≡◌, ℕ, ◌+◌, ◌<◌, ◌≤◌, if◌then◌else◌, Some, List, [], ◌∷◌, ◌++◌, length}
use Rattle.go_base.specs.declared.rule.Broken.{Broken}
use Rattle.go_base.specs.declared.rule.Family.TheVariants.{U, L}
use Rattle.go_base.specs.declared.rule.Rule.{Rule}
use Rattle.go_tree.specs.Tree.{Tree, id_of, start_of}
use Rattle.go_text.specs.declared.fault.ParseFault.{ParseFault}
use Rattle.go_text.specs.Files.{IsFileOf}
use Rattle.go_text.specs.Faults.{IsFaultOf}
use Rattle.go_module.specs.Broken.{broken_at}
use Rattle.go_form.specs.Fault.{broken_by}
use Rattle.go_form.specs.BuildConstraints.{AreBuildConstraints}
use Rattle.go_module.specs.Order.{IsListOf}
use Rattle.go_form.specs.Whole.{broken_forms}
use Rattle.go_mod.specs.Folders.{most_bytes}
use Rattle.go_module.specs.Modules.PathParts.{is_plain}

abbrev pub special_file_path : Rule
special_file_path = record { family = U; number = 6 }

abbrev pub large_file : Rule
large_file = record { family = L; number = 1 }

-- own: paths are of plain bytes
abbrev pub broken_path : ℕ → List ℕ → List Broken
broken_path file path = if is_plain path then [] else broken_at file 0 special_file_path ∷ []

-- what a file with that tree breaks by its path and its form
pub record AreBrokenWith (file : ℕ) (path bytes : List ℕ) (tree : Tree) (list : List Broken) : Type 0 where
  pub constraints : List ℕ
  pub are_constraints : AreBuildConstraints bytes (start_of tree) constraints
  pub is_list : IsListOf (broken_path file path ++ broken_forms file constraints tree) list

-- the rules that a file breaks by itself, where the nodes of its tree are numbered from `first` on: one that is
-- too long, or has no tree, breaks one
pub data SourceBreaks (file first : ℕ) (path bytes : List ℕ) : List Broken → Type 0 where
  too_long : most_bytes < length bytes → SourceBreaks file first path bytes (broken_at file 0 large_file ∷ [])
  no_tree : (fault : ParseFault) (b : Broken) → length bytes ≤ most_bytes → IsFaultOf bytes fault → broken_by file fault ≡ Some b → SourceBreaks file first path bytes (b ∷ [])
  by_form : (tree : Tree) (list : List Broken) → length bytes ≤ most_bytes → IsFileOf bytes first tree → AreBrokenWith file path bytes tree list → SourceBreaks file first path bytes list

-- the number of the first node behind a file that breaks these rules: nodes are numbered on over the files that
-- break none
pub data NumbersOn (first : ℕ) (bytes : List ℕ) : List Broken → ℕ → Type 0 where
  whole : (tree : Tree) → IsFileOf bytes first tree → NumbersOn first bytes [] (id_of tree + 1)
  broken : (b : Broken) (bs : List Broken) → NumbersOn first bytes (b ∷ bs) first
