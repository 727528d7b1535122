-- The node with a number.
use Rattle.std.specs.Prelude.{ℕ, ◌==◌, Option, Some, None, if◌then◌else◌}
use Rattle.go_tree.specs.Tree.{Tree, branch, Trees, no_trees, more_trees}

abbrev pub or_else : Option Tree → Option Tree → Option Tree
or_else None next = next
or_else (Some t) next = Some t

-- the first node with the number, a node before its parts
abbrev mutual
  pub found_in : ℕ → Tree → Option Tree
  found_in n (branch id from to kind text parts) = if id == n then Some (branch id from to kind text parts) else found_among n parts

  pub found_among : ℕ → Trees → Option Tree
  found_among n no_trees = None
  found_among n (more_trees t ts) = or_else (found_in n t) (found_among n ts)
