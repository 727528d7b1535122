-- Parts of nodes.
use Rattle.std.specs.Prelude.{List, []}
use Rattle.go_tree.specs.Tree.{Tree, branch, Trees, no_trees, more_trees, list_of}

-- the first and the last part of a node, or the node itself where it has none
abbrev pub first_part : Tree → Tree
first_part (branch id from to kind text no_trees) = branch id from to kind text no_trees
first_part (branch id from to kind text (more_trees first parts)) = first

abbrev pub last_of : Tree → Trees → Tree
last_of t no_trees = t
last_of t (more_trees u ts) = last_of u ts

abbrev pub last_part : Tree → Tree
last_part (branch id from to kind text parts) = last_of (branch id from to kind text parts) parts

abbrev pub all_but_first : Trees → List Tree
all_but_first no_trees = []
all_but_first (more_trees first parts) = list_of parts
