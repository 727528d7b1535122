-- Lemmas on `tree_of`: its equation, and trees by the number of their parts.
use Rattle.std.proofs.Common.{◌≡◌, ℕ, zero, suc, ◌+◌, ◌<◌, ◌≤◌, List, [], ◌∷◌, length, map, get_or, refl, ap, sym, ◌∙◌, arith}
use Rattle.go_tree.specs.declared.node.Node.{Node}
use Rattle.go_tree.specs.declared.node.Node.TheViews.{out-Node}
use Rattle.go_tree.specs.declared.node.Node.TheFolds.{fold_out-Node}
use Rattle.go_tree.specs.Tree.{Tree, branch, no_trees, more_trees, trees_of, list_of, tree_step, tree_of, parts_of, node_count, node_count_of_all}

pub tree_of-out : (n : Node) → tree_of n ≡ branch (out-Node n).id.0 (out-Node n).start (out-Node n).end (out-Node n).kind (out-Node n).text (trees_of (map tree_of (out-Node n).parts.items))
tree_of-out = fold_out-Node Tree tree_step

pub list_of-trees_of : (ts : List Tree) → list_of (trees_of ts) ≡ ts
list_of-trees_of [] = refl
list_of-trees_of (t ∷ ts) = ap (λ us. t ∷ us) (list_of-trees_of ts)

-- a tree has one node more than its parts
pub count-parts : (t : Tree) → node_count t ≡ 1 + node_count_of_all (parts_of t)
count-parts (branch id from to kind text parts) = refl

one_long : (xs : List Node) (a : Tree) → trees_of (map tree_of xs) ≡ more_trees a no_trees → length xs ≡ 1
one_long [] a e = cc
one_long (x ∷ []) a e = refl
one_long (x ∷ (y ∷ xs)) a e = cc

-- a node whose parts are one tree has one part
pub one_part : (n : Node) (a : Tree) → parts_of (tree_of n) ≡ more_trees a no_trees → length (out-Node n).parts.items ≡ 1
one_part n a e = one_long (out-Node n).parts.items a (sym (ap parts_of (tree_of-out n)) ∙ e)

two_long : (xs : List Node) (a b : Tree) → trees_of (map tree_of xs) ≡ more_trees a (more_trees b no_trees) → length xs ≡ 2
two_long [] a b e = cc
two_long (x ∷ []) a b e = cc
two_long (x ∷ (y ∷ [])) a b e = refl
two_long (x ∷ (y ∷ (z ∷ xs))) a b e = cc

-- a node whose parts are two trees has two parts
pub two_parts : (n : Node) (a b : Tree) → parts_of (tree_of n) ≡ more_trees a (more_trees b no_trees) → length (out-Node n).parts.items ≡ 2
two_parts n a b e = two_long (out-Node n).parts.items a b (sym (ap parts_of (tree_of-out n)) ∙ e)

-- a part has at most the nodes of all parts
pub part_within : (xs : List Node) (k : ℕ) (a : Node) → k < length xs → a ≡ get_or xs k a → node_count (tree_of a) ≤ node_count_of_all (trees_of (map tree_of xs))
part_within [] k a lt e = absurd (omega arith)
part_within (x ∷ xs) zero a lt e = let same = ap (λ (n : Node). node_count (tree_of n)) e in omega (arith, same)
part_within (x ∷ xs) (suc k) a lt e = let r = part_within xs k a (omega arith) e in omega arith
