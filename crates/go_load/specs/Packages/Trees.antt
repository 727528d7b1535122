-- Trees of files, what is read of them, and what the files of a module break by themselves.
use Rattle.std.specs.Prelude.{◌≡◌, ◌≢◌, ℕ, ◌+◌, List, [], ◌∷◌, ◌++◌, map}
use Rattle.go_base.specs.declared.rule.Broken.{Broken as BrokenRule}
use Rattle.go_tree.specs.declared.node.File.{File}
use Rattle.go_tree.specs.Tree.{Tree, tree_of, id_of}
use Rattle.go_text.specs.Files.{IsFileOf}
use Rattle.go_module.specs.declared.places.Placed.{Placed}
use Rattle.go_module.specs.Modules.Texts.{SourceText}
use Rattle.go_module.specs.Modules.Heads.{ImportSpec, AreImports}
use Rattle.go_load.specs.Loading.{TextsBreak, TextsBreakFrom}
use Rattle.go_module.specs.Places.{placed_in}
use Rattle.go_module.specs.Modules.Module.{AreTrees, first_number}
use Rattle.go_load.specs.Sources.{SourceBreaks}
use Rattle.go_load.specs.declared.load_fault.LoadFault.{LoadFault}
use Rattle.go_load.specs.declared.load_fault.LoadFault.TheVariants.{Broken, ReadFault, NoMemory}

-- the trees of files
abbrev pub trees_in : List File → List Tree
trees_in files = map (λ file. tree_of file.root) files

-- an import for each of the specs stands behind the others
pub record AddsImports (specs : List Tree) (old new : List ImportSpec) : Type 0 where
  pub added : List ImportSpec
  pub are_imports : AreImports specs added
  pub new_is : new ≡ old ++ added

-- the first number behind those of the trees
abbrev pub next_number : ℕ → List Tree → ℕ
next_number first [] = first
next_number first (tree ∷ trees) = next_number (id_of tree + 1) trees

-- the files have the numbers from the first on
abbrev pub AreNumbered : ℕ → List File → Type 0
AreNumbered number [] = Unit {0}
AreNumbered number (file ∷ files) = (file.number ≡ number) × AreNumbered (number + 1) files

-- the trees of these texts, the first number behind those of their nodes, and the numbers of the files
pub record AreWhole (texts : List SourceText) (files : List File) (next : ℕ) : Type 0 where
  pub are_trees : AreTrees first_number texts (trees_in files)
  pub next_is : next ≡ next_number first_number (trees_in files)
  pub numbered : AreNumbered 0 files

-- what the texts break; their trees, where that is nothing
pub record AreParsed (texts : List SourceText) (files : List File) (next : ℕ) (broken : List Placed) : Type 0 where
  pub breaks : TextsBreakFrom 0 first_number texts next broken
  pub whole : broken ≡ [] → AreWhole texts files next

-- one more text: its tree stands behind the others, or what it breaks does
pub data AddsText (text : SourceText) (number : ℕ) (old new : List File) (next after : ℕ) (before broken : List Placed) : Type 0 where
  tree : (file : File) → file.number ≡ number → IsFileOf text.bytes next (tree_of file.root) → SourceBreaks number next text.path text.bytes [] → new ≡ old ++ file ∷ [] → after ≡ id_of (tree_of file.root) + 1 → broken ≡ before → AddsText text number old new next after before broken
  rules : (list : List BrokenRule) → list ≢ [] → SourceBreaks number next text.path text.bytes list → after ≡ next → broken ≡ before ++ map (placed_in text) list → AddsText text number old new next after before broken

-- a list that is told is what the texts break, and not empty
abbrev pub IsTextsFault : List SourceText → LoadFault → Type 0
IsTextsFault texts (Broken list) = (list.items ≢ []) × TextsBreak texts list.items
IsTextsFault texts ReadFault = ⊥
IsTextsFault texts NoMemory = Unit {0}
