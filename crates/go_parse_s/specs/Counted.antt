-- What is counted of trees before their copies are made.
use Rattle.std.specs.Prelude.{ℕ, ◌≡◌, ◌-◌, ◌^◌, min}
use Rattle.go_tree.specs.Tree.{Tree, Trees, no_trees, more_trees, parts_of, node_count, node_count_of_all}
use Rattle.go_parse_s.specs.declared.copy_count.Counts.{Counts}
use Rattle.go_text.specs.CopyCount.{copied_nodes, copied_among}

-- the number, or the greatest of 64 bits where it does not fit those
abbrev pub capped : ℕ → ℕ
capped n = min n (2 ^ 64 - 1)

abbrev pub behind_first : Trees → Trees
behind_first no_trees = no_trees
behind_first (more_trees t ts) = ts

-- the nodes of a tree, those behind its first part, and those that stand in copies
pub record AreCounts (c : Counts) (t : Tree) : Type 0 where
  pub nodes : c.nodes ≡ capped (node_count t)
  pub list : c.list ≡ capped (node_count_of_all (behind_first (parts_of t)))
  pub copied : c.copied ≡ capped (copied_nodes t)

-- the same of all the parts of a tree
pub record AreCountsOfAll (c : Counts) (ts : Trees) : Type 0 where
  pub nodes : c.nodes ≡ capped (node_count_of_all ts)
  pub list : c.list ≡ capped (node_count_of_all (behind_first ts))
  pub copied : c.copied ≡ capped (copied_among ts)
