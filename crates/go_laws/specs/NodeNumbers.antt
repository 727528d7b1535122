-- Source file organization; Packages (Go specification).
-- Says in which order the nodes of each package of a module have their numbers, and that no number is that of nodes of
-- two packages.
use Rattle.std.specs.Prelude.{◌≡◌, ◌≢◌, ℕ, ◌<◌, ◌≤◌, Some, List, [], ◌∷◌, ◌++◌, map, slice_get, AllPairs, Contains}
use Rattle.std.specs.List.{flat_map}
use Rattle.go_tree.specs.Tree.{Tree, Trees, branch, id_of, more_trees, no_trees}
use Rattle.go_module.specs.Modules.Module.{FileData, ModuleData, PackageData, first_number}

-- the nodes of a tree in the order in which they end: part after part, and the node itself behind its parts
abbrev mutual
  pub nodes_by_end : Tree → List Tree
  nodes_by_end (branch id from to kind text parts) = nodes_by_end_among parts ++ branch id from to kind text parts ∷ []

  pub nodes_by_end_among : Trees → List Tree
  nodes_by_end_among no_trees = []
  nodes_by_end_among (more_trees t ts) = nodes_by_end t ++ nodes_by_end_among ts

-- the nodes of these files, file after file, those of each in that order
abbrev pub nodes_in_files : List FileData → List Tree
nodes_in_files files = flat_map (λ file. nodes_by_end file.tree) files

-- their numbers
abbrev pub numbers_in_files : List FileData → List ℕ
numbers_in_files files = map id_of (nodes_in_files files)

-- in each package of a module they ascend, and none is below the first number; and no node of one package has the
-- number of a node of another
pub record NodeNumbersAscend (m : ModuleData) : Type 0 where
  pub ascend : (k : ℕ) (p : PackageData) → slice_get m.packages k ≡ Some p
      → AllPairs (λ (a b : ℕ). a < b) (numbers_in_files p.files)
  pub from_first : (k : ℕ) (p : PackageData) → slice_get m.packages k ≡ Some p
      → (n : ℕ) → Contains (numbers_in_files p.files) n → first_number ≤ n
  pub apart : (j k : ℕ) (p q : PackageData) → j ≢ k → slice_get m.packages j ≡ Some p → slice_get m.packages k ≡ Some q
      → (n : ℕ) → Contains (numbers_in_files p.files) n → Contains (numbers_in_files q.files) n → ⊥
