-- Trees in memory.
-- Decides what contracts see of them: the files, and which calls fail.
use Rattle.std.specs.Prelude.{ℕ, List}
use Rattle.go_base.specs.declared.tree.MemFile.{MemFile}
use Rattle.go_base.specs.Tree.{HasDistinctPaths}

-- the files, the numbers of the calls that fail, and how many calls were made and failed
pub record MemTreeState : Type 0 where
  pub files : List MemFile
  pub distinct : HasDistinctPaths files
  pub failing : List ℕ
  pub calls : ℕ
  pub faults : ℕ

-- the files of a tree whose calls do not fail
pub record SureTreeState : Type 0 where
  pub files : List MemFile
  pub distinct : HasDistinctPaths files
