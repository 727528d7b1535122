-- Open nodes, as the grammar's definitions see them: trees without numbers, the newest first.
-- Says beside it which numbers their nodes have.
use Rattle.std.specs.Prelude.{ℕ, suc, ◌≤◌, List, [], ◌∷◌, ◌++◌, map, reverse}
use Rattle.go_tree.specs.declared.node.Node.{Node}
use Rattle.go_tree.specs.Tree.{Tree, branch, Trees, no_trees, more_trees, tree_of, trees_of}
use Rattle.go_tree.specs.Grammar.Trees.Reading as reading
use Rattle.go_parse_x.specs.declared.opened.OpenNode.{OpenNode}

abbrev mutual
  -- the tree with the number 0 at each node
  pub unnumbered : Tree → Tree
  unnumbered (branch id from to kind text parts) = branch 0 from to kind text (all_unnumbered parts)

  pub all_unnumbered : Trees → Trees
  all_unnumbered no_trees = no_trees
  all_unnumbered (more_trees t ts) = more_trees (unnumbered t) (all_unnumbered ts)

-- what the grammar derives where the code has this node
abbrev pub tree_without : Node → Tree
tree_without node = unnumbered (tree_of node)

abbrev pub frame : OpenNode → reading.OpenNode
frame f = record { start = f.start; parts = reverse (map tree_without f.parts.items) }

-- the open nodes, the innermost first
abbrev pub frames : List OpenNode → List reading.OpenNode
frames fs = reverse (map frame fs)

-- the open nodes where this tree was read as the newest part of the innermost one
abbrev pub added : Tree → List reading.OpenNode → List reading.OpenNode
added t [] = []
added t (f ∷ fs) = record { start = f.start; parts = t ∷ f.parts } ∷ fs

abbrev mutual
  -- the numbers of a tree's nodes, those of the parts before that of their node
  pub numbers_in : Tree → List ℕ
  numbers_in (branch id from to kind text parts) = numbers_among parts ++ id ∷ []

  pub numbers_among : Trees → List ℕ
  numbers_among no_trees = []
  numbers_among (more_trees t ts) = numbers_in t ++ numbers_among ts

-- the numbers of all nodes that were read, the outermost open node first
abbrev pub numbers : List OpenNode → List ℕ
numbers [] = []
numbers (f ∷ fs) = numbers_among (trees_of (map tree_of f.parts.items)) ++ numbers fs

-- they rise, from a number on and below another: so each stands there once
abbrev pub Rises : ℕ → List ℕ → ℕ → Type 0
Rises low [] next = low ≤ next
Rises low (n ∷ ns) next = (low ≤ n) × Rises (suc n) ns next
