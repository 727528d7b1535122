-- What is read of a tree.
use Rattle.std.specs.Prelude.{◌≢◌, ℕ, List, [], Option}
use Rattle.go_base.specs.declared.tree.MemFile.{MemFile}
use Rattle.go_base.specs.declared.tree.TreeFault.{TreeFault}
use Rattle.go_base.specs.declared.tree.TreeFault.TheVariants.{Failed, NoMemory as TreeNoMemory}
use Rattle.go_mod.specs.Folders.{Folder}
use Rattle.go_module.specs.Modules.Texts.{SourceText}
use Rattle.go_load.specs.Loading.{AreBelow, IsReadFrom, ModuleFileBreaks}
use Rattle.go_load.specs.declared.load_fault.LoadFault.{LoadFault}
use Rattle.go_load.specs.declared.load_fault.LoadFault.TheVariants.{Broken, ReadFault, NoMemory}

-- what a fault of a tree becomes
abbrev pub fault_of : TreeFault → LoadFault
fault_of Failed = ReadFault
fault_of TreeNoMemory = NoMemory

-- the path of the module and its texts, read from two roots of a tree
pub record ReadsModule (told : Option (List MemFile)) (root : List ℕ) (stubs_root : Option (List ℕ)) (path : List ℕ) (texts : List SourceText) : Type 0 where
  pub own : Folder
  pub stubs : Folder
  pub below : AreBelow told root stubs_root own stubs
  pub is_read : IsReadFrom own stubs path texts

-- a list that is told is that of go.mod, and not empty
abbrev pub IsModuleFileFault : Folder → LoadFault → Type 0
IsModuleFileFault own (Broken list) = (list.items ≢ []) × ModuleFileBreaks own list.items
IsModuleFileFault own ReadFault = Unit {0}
IsModuleFileFault own NoMemory = Unit {0}

-- what go.mod breaks
pub record ReadsBroken (told : Option (List MemFile)) (root : List ℕ) (stubs_root : Option (List ℕ)) (fault : LoadFault) : Type 0 where
  pub own : Folder
  pub stubs : Folder
  pub below : AreBelow told root stubs_root own stubs
  pub broken : IsModuleFileFault own fault
