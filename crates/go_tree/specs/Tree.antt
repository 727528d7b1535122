-- Trees of Go files as plain data.
-- Says what a `Node` stands for. Which tokens derive which tree is left to the grammar.
use Rattle.std.specs.Prelude.{ℕ, ◌+◌, List, [], ◌∷◌}
use Rattle.go_tree.specs.declared.node_kind.NodeKind.{NodeKind}
use Rattle.go_tree.specs.declared.node.Node.{Node}
use Rattle.go_tree.specs.declared.node.Node.TheOpen.{Node-F}
use Rattle.go_tree.specs.declared.node.Node.TheFolds.{fold-Node}

mutual
  -- a node: its number, its span as offsets, its kind, its text and its parts in source order
  pub data Tree : Type 0 where
    branch : (id from to : ℕ) (kind : NodeKind) (text : List ℕ) (parts : Trees) → Tree

  pub data Trees : Type 0 where
    no_trees : Trees
    more_trees : Tree → Trees → Trees

abbrev pub trees_of : List Tree → Trees
trees_of [] = no_trees
trees_of (t ∷ ts) = more_trees t (trees_of ts)

abbrev pub list_of : Trees → List Tree
list_of no_trees = []
list_of (more_trees t ts) = t ∷ list_of ts

abbrev pub tree_step : Node-F Tree → Tree
tree_step n = branch n.id.0 n.start n.end n.kind n.text (trees_of n.parts.items)

-- what a node stands for
abbrev pub tree_of : Node → Tree
tree_of = fold-Node Tree tree_step

abbrev pub id_of : Tree → ℕ
id_of (branch id from to kind text parts) = id

abbrev pub start_of : Tree → ℕ
start_of (branch id from to kind text parts) = from

abbrev pub end_of : Tree → ℕ
end_of (branch id from to kind text parts) = to

abbrev pub kind_of : Tree → NodeKind
kind_of (branch id from to kind text parts) = kind

abbrev pub text_of : Tree → List ℕ
text_of (branch id from to kind text parts) = text

abbrev pub parts_of : Tree → Trees
parts_of (branch id from to kind text parts) = parts

-- how many nodes a tree has; the measure of walks over trees
abbrev mutual
  pub node_count : Tree → ℕ
  node_count (branch id from to kind text parts) = 1 + node_count_of_all parts

  pub node_count_of_all : Trees → ℕ
  node_count_of_all no_trees = 0
  node_count_of_all (more_trees t ts) = node_count t + node_count_of_all ts
