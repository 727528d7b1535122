-- Constant declarations (Go specification).
-- How many nodes the copies of omitted lists have together, and how many a reader makes at most: past that it
-- answers that memory runs out.
use Rattle.std.specs.Prelude.{ℕ, ◌+◌, Bool, true, false, if◌then◌else◌}
use Rattle.go_tree.specs.declared.node_kind.NodeKind.{NodeKind}
use Rattle.go_tree.specs.declared.node_kind.NodeKind.TheVariants.{ConstCopy}
use Rattle.go_tree.specs.Tree.{Tree, branch, Trees, no_trees, more_trees, node_count_of_all}

-- own: the greatest number of nodes that a reader makes for the copies of a file
abbrev pub most_copied_nodes : ℕ
most_copied_nodes = 8388608

abbrev pub is_copy : NodeKind → Bool
is_copy ConstCopy = true
is_copy _ = false

abbrev mutual
  -- how many nodes of a tree stand in copies, the copies themselves among them
  pub copied_nodes : Tree → ℕ
  copied_nodes (branch id from to kind text parts) = if is_copy kind then 1 + node_count_of_all parts else copied_among parts

  pub copied_among : Trees → ℕ
  copied_among no_trees = 0
  copied_among (more_trees t ts) = copied_nodes t + copied_among ts
