-- The numbers of a file's nodes.
use Rattle.std.specs.Prelude.{ℕ, ◌+◌}
use Rattle.go_tree.specs.Tree.{Tree, branch, Trees, no_trees, more_trees, node_count, node_count_of_all}

-- the tree whose nodes have the numbers from the first one on, in the order in which they end
abbrev mutual
  pub numbered : ℕ → Tree → Tree
  numbered first (branch id from to kind text parts) = branch (first + node_count_of_all parts) from to kind text (all_numbered first parts)

  pub all_numbered : ℕ → Trees → Trees
  all_numbered first no_trees = no_trees
  all_numbered first (more_trees t ts) = more_trees (numbered first t) (all_numbered (first + node_count t) ts)
