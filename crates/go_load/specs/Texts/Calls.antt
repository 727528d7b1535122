-- Calls on a tree.
-- Says what each of them tells, and what they leave of the tree.
use Rattle.std.specs.Prelude.{◌≡◌, ℕ, suc, List, Option, IfSome, IsErrOf, IsPermutation, Result, take}
use Rattle.go_base.specs.Counters.{Rose}
use Rattle.go_base.specs.declared.tree.MemFile.{MemFile}
use Rattle.go_base.specs.Tree.{paths_of, bytes_of}
use Rattle.go_mod.specs.Folders.{most_bytes}
use Rattle.go_load.specs.declared.load_fault.LoadFault.{LoadFault}
use Rattle.go_load.specs.declared.load_fault.LoadFault.TheVariants.{Broken, ReadFault, NoMemory}

-- the files stay, and the count of faults rises only where the tree could not be read
pub record Leaves {A : Type 0} (files_before files_after : Option (List MemFile)) (before after : ℕ) (result : Result A LoadFault) : Type 0 where
  pub files : files_after ≡ files_before
  pub cause : IsErrOf result ReadFault → Rose before after
  pub stays : (IsErrOf result ReadFault → ⊥) → after ≡ before

-- the paths of all files below the root, where the tree tells its files
abbrev pub IsListed : Option (List MemFile) → List ℕ → List (List ℕ) → Type 0
IsListed told root names = IfSome told (λ all. IsPermutation names (paths_of all root))

-- the bytes of the file at the path, with one byte more than a file may have
abbrev pub IsReadAt : Option (List MemFile) → List ℕ → List ℕ → List ℕ → Type 0
IsReadAt told root path bytes = IfSome told (λ all. bytes ≡ take (suc most_bytes) (bytes_of all root path))

-- no rule is told
abbrev pub IsNoRule : LoadFault → Type 0
IsNoRule (Broken list) = ⊥
IsNoRule ReadFault = Unit {0}
IsNoRule NoMemory = Unit {0}
