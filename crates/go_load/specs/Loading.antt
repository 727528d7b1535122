-- Packages; Source file organization (Go specification).
-- Decides what is loaded from the files below two roots: the module, or the rules of the first phase that
-- breaks any. Phase 1 is go.mod, phase 2 each file by itself, phase 3 imports and package clauses.
use Rattle.std.specs.Prelude.{◌≡◌, ◌≢◌, ℕ, ◌+◌, false, List, [], ◌∷◌, ◌++◌, Option, map}
use Rattle.go_base.specs.declared.rule.Broken.{Broken}
use Rattle.go_base.specs.declared.tree.MemFile.{MemFile}
use Rattle.go_module.specs.Places.{placed_among, placed_in}
use Rattle.go_tree.specs.Tree.{Tree}
use Rattle.go_module.specs.declared.places.Placed.{Placed}
use Rattle.go_module.specs.Modules.BrokenImports.{AreBrokenPackages}
use Rattle.go_mod.specs.Folders.{Folder, AreTexts, IsBelow, IsBelowSome}
use Rattle.go_module.specs.Modules.Texts.{SourceText}
use Rattle.go_module.specs.Order.{IsListOf}
use Rattle.go_module.specs.Modules.Heads.{FileHead}
use Rattle.go_module.specs.Modules.Module.{AreParts, IsLoaded, ModuleData, first_number}
use Rattle.go_mod.specs.ModuleRules.{broken_module_file, module_file_path, module_lines}
use Rattle.go_module.specs.Modules.Packages.{PackageTable}
use Rattle.go_load.specs.Sources.{NumbersOn, SourceBreaks}

-- go.mod, as a text
abbrev pub module_text : Folder → SourceText
module_text own = record { stub = false; path = module_file_path; bytes = own.bytes module_file_path }

-- phase 1: what go.mod breaks
pub record ModuleFileBreaks (own : Folder) (list : List Placed) : Type 0 where
  pub broken : List Broken
  pub is_list : IsListOf (broken_module_file own) broken
  pub placed : list ≡ map (placed_in (module_text own)) broken

-- phase 2: what each text breaks by itself, text after text. The first of these texts has that number, and its
-- nodes are numbered from `first` on; `next` is the number behind that of the last node.
abbrev pub TextsBreakFrom : ℕ → ℕ → List SourceText → ℕ → List Placed → Type 0
TextsBreakFrom number first [] next list = (first ≡ next) × (list ≡ [])
TextsBreakFrom number first (text ∷ texts) next list =
    (broken : List Broken) × (others : List Placed) × (mid : ℕ)
    × SourceBreaks number first text.path text.bytes broken × NumbersOn first text.bytes broken mid
    × TextsBreakFrom (number + 1) mid texts next others × (list ≡ map (placed_in text) broken ++ others)

abbrev pub TextsBreak : List SourceText → List Placed → Type 0
TextsBreak texts list = (next : ℕ) × TextsBreakFrom 0 first_number texts next list

-- phase 3: what imports and package clauses break
pub record PackagesBreak (texts : List SourceText) (heads : List FileHead) (t : PackageTable) (list : List Placed) : Type 0 where
  pub broken : List Broken
  pub are_broken : AreBrokenPackages heads t broken
  pub placed : list ≡ map (placed_among texts) broken

-- a root whose go.mod breaks nothing and names the module by that path, and the texts that are read
pub record IsReadFrom (own stubs : Folder) (path : List ℕ) (texts : List SourceText) : Type 0 where
  pub good : broken_module_file own ≡ []
  pub path_is : map (λ line. line.text) (module_lines (own.bytes module_file_path)) ≡ path ∷ []
  pub are_texts : AreTexts own stubs texts

-- the module of two folders, where no phase breaks a rule
pub record IsModule (own stubs : Folder) (m : ModuleData) : Type 0 where
  pub loaded : IsLoaded m
  pub read : IsReadFrom own stubs loaded.path loaded.texts
  pub sound : TextsBreak loaded.texts []

-- the whole list of the first phase that breaks a rule
pub data IsFirstList (own stubs : Folder) (list : List Placed) : Type 0 where
  of_module_file : list ≢ [] → ModuleFileBreaks own list → IsFirstList own stubs list
  of_texts : (path : List ℕ) (texts : List SourceText) → IsReadFrom own stubs path texts → list ≢ [] → TextsBreak texts list → IsFirstList own stubs list
  of_packages : (path : List ℕ) (texts : List SourceText) (trees : List Tree) (heads : List FileHead) (t : PackageTable) → IsReadFrom own stubs path texts
      → TextsBreak texts [] → AreParts path texts trees heads t → list ≢ [] → PackagesBreak texts heads t list → IsFirstList own stubs list

-- two folders, which are what a tree has below two roots where it tells its files
pub record AreBelow (told : Option (List MemFile)) (root : List ℕ) (stubs_root : Option (List ℕ)) (own stubs : Folder) : Type 0 where
  pub own_is : IsBelow told root own
  pub stubs_are : IsBelowSome told stubs_root stubs

-- the module that is loaded from two roots of a tree
pub record LoadsModule (told : Option (List MemFile)) (root : List ℕ) (stubs_root : Option (List ℕ)) (m : ModuleData) : Type 0 where
  pub own : Folder
  pub stubs : Folder
  pub below : AreBelow told root stubs_root own stubs
  pub is_module : IsModule own stubs m

-- the rules that are told in its place
pub record LoadsBroken (told : Option (List MemFile)) (root : List ℕ) (stubs_root : Option (List ℕ)) (list : List Placed) : Type 0 where
  pub own : Folder
  pub stubs : Folder
  pub below : AreBelow told root stubs_root own stubs
  pub is_first : IsFirstList own stubs list
