-- What is made of what was read.
use Rattle.std.specs.Prelude.{◌≢◌, ℕ, List, [], Option}
use Rattle.go_base.specs.declared.tree.MemFile.{MemFile}
use Rattle.go_tree.specs.Tree.{Tree}
use Rattle.go_module.specs.declared.places.Placed.{Placed}
use Rattle.go_module.specs.Modules.BrokenImports.{AreBrokenPackages}
use Rattle.go_module.specs.Modules.Texts.{SourceText}
use Rattle.go_module.specs.Modules.Heads.{FileHead}
use Rattle.go_load.specs.Loading.{LoadsBroken, PackagesBreak, TextsBreak}
use Rattle.go_module.specs.Modules.Module.{AreParts, IsModuleOf, ModuleData, files_from}
use Rattle.go_module.specs.Modules.Packages.{PackageTable}
use Rattle.go_load.specs.declared.load_fault.LoadFault.{LoadFault}
use Rattle.go_load.specs.declared.load_fault.LoadFault.TheVariants.{Broken, ReadFault, NoMemory}

-- the module of a path and texts that break no rule
pub record IsMade (path : List ℕ) (texts : List SourceText) (m : ModuleData) : Type 0 where
  pub sound : TextsBreak texts []
  pub trees : List Tree
  pub heads : List FileHead
  pub table : PackageTable
  pub parts : AreParts path texts trees heads table
  pub whole : AreBrokenPackages heads table []
  pub is_module : IsModuleOf path (files_from 0 texts trees) heads table m

-- what texts break by themselves, or else by their imports and package clauses
pub data MadeBreaks (path : List ℕ) (texts : List SourceText) (list : List Placed) : Type 0 where
  by_texts : TextsBreak texts list → MadeBreaks path texts list
  by_packages : (trees : List Tree) (heads : List FileHead) (t : PackageTable) → TextsBreak texts [] → AreParts path texts trees heads t → PackagesBreak texts heads t list → MadeBreaks path texts list

-- a list that is told is what they break, and not empty
abbrev pub IsMadeFault : List ℕ → List SourceText → LoadFault → Type 0
IsMadeFault path texts (Broken list) = (list.items ≢ []) × MadeBreaks path texts list.items
IsMadeFault path texts ReadFault = ⊥
IsMadeFault path texts NoMemory = Unit {0}

-- a list that is told is the whole list of the first phase that breaks a rule
abbrev pub IsLoadFault : Option (List MemFile) → List ℕ → Option (List ℕ) → LoadFault → Type 0
IsLoadFault told root stubs_root (Broken list) = LoadsBroken told root stubs_root list.items
IsLoadFault told root stubs_root ReadFault = Unit {0}
IsLoadFault told root stubs_root NoMemory = Unit {0}
