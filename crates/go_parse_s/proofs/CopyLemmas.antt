-- The copies of omitted lists as walks over parts.
use Rattle.std.proofs.Common.{◌≡◌, ℕ, zero, ◌<◌, ◌-◌, List, [], ◌∷◌, ◌++◌, length, take, drop, map, refl, ap, arith}
use Rattle.go_tree.specs.declared.node_kind.NodeKind.{NodeKind}
use Rattle.go_tree.specs.declared.node.Node.{Node, roll-Node}
use Rattle.go_tree.specs.declared.node.Node.TheOpen.{Node-F}
use Rattle.go_tree.specs.declared.node.Node.TheViews.{out-Node}
use Rattle.go_tree.proofs.TreeLemmas.{tree_of-out}
use Rattle.go_tree.specs.declared.node.Node.TheFolds.{fold-roll-Node}
use Rattle.go_tree.specs.Tree.{Tree, Trees, branch, no_trees, more_trees, tree_step, tree_of, trees_of, list_of, end_of}
use Rattle.go_text.specs.Copies.{last_end, copy_if_any, with_copies, all_with_copies, specs_with_copies, completed, list_behind}
use Rattle.go_parse_s.proofs.WalkLemmas.{trees_behind}

-- a part by itself
abbrev pub alone : Unit {0} → Tree → Tree
alone s t = with_copies t

abbrev pub nothing : Unit {0} → Tree → Unit {0}
nothing s t = s

-- a spec behind a list
abbrev pub in_group : Trees → Tree → Tree
in_group list t = completed list (with_copies t)

abbrev pub list_after : Trees → Tree → Trees
list_after list t = list_behind list (with_copies t)

pub all-walk : (xs : List Node) → trees_behind alone nothing zero tt xs ≡ all_with_copies (trees_of (map tree_of xs))
all-walk [] = refl
all-walk (x ∷ xs) = ap (λ ts. more_trees (with_copies (tree_of x)) ts) (all-walk xs)

pub specs-walk : (list : Trees) (xs : List Node) → trees_behind in_group list_after zero list xs ≡ specs_with_copies list (trees_of (map tree_of xs))
specs-walk list [] = refl
specs-walk list (x ∷ xs) = ap (λ ts. more_trees (in_group list (tree_of x)) ts) (specs-walk (list_after list (tree_of x)) xs)

-- the tree of a node that is made
pub rolled : (n : Node-F Node) → tree_of (roll-Node n) ≡ branch n.id.0 n.start n.end n.kind n.text (trees_of (map tree_of n.parts.items))
rolled n = fold-roll-Node Tree tree_step n

-- where the last of the trees ends that stand behind this end
abbrev pub end_behind : ℕ → Trees → ℕ
end_behind end no_trees = end
end_behind end (more_trees t ts) = end_behind (end_of t) ts

pub last_end_is : (t : Tree) (ts : Trees) → last_end t ts ≡ end_behind (end_of t) ts
last_end_is t no_trees = refl
last_end_is t (more_trees u us) = last_end_is u us

pub opened : (n : Node) → tree_of n ≡ branch (out-Node n).id.0 (out-Node n).start (out-Node n).end (out-Node n).kind (out-Node n).text (trees_of (map tree_of (out-Node n).parts.items))
opened n = tree_of-out n

pub trees_of-list_of : (ts : Trees) → trees_of (list_of ts) ≡ ts
trees_of-list_of no_trees = refl
trees_of-list_of (more_trees t ts) = ap (λ us. more_trees t us) (trees_of-list_of ts)

-- a spec that has its names alone
pub completed_alone : (id from to : ℕ) (kind : NodeKind) (text : List ℕ) (parts : List Tree) (list : Trees) → length parts ≡ 1 → branch id from to kind text (trees_of (parts ++ list_of (copy_if_any list))) ≡ completed list (branch id from to kind text (trees_of parts))
completed_alone id from to kind text [] list e = cc
completed_alone id from to kind text (x ∷ []) list e = ap (λ ts. branch id from to kind text (more_trees x ts)) (trees_of-list_of (copy_if_any list))
completed_alone id from to kind text (x ∷ (y ∷ parts)) list e = cc

pub behind_alone : (id from to : ℕ) (kind : NodeKind) (text : List ℕ) (parts : List Tree) (list : Trees) → length parts ≡ 1 → list ≡ list_behind list (branch id from to kind text (trees_of parts))
behind_alone id from to kind text [] list e = cc
behind_alone id from to kind text (x ∷ []) list e = refl
behind_alone id from to kind text (x ∷ (y ∷ parts)) list e = cc

-- one that has a list of its own
whole : (xs : List Node) → take (length xs) xs ≡ xs
whole [] = refl
whole (x ∷ xs) = ap (λ ys. x ∷ ys) (whole xs)

pub behind_own_parts : (id from to : ℕ) (kind : NodeKind) (text : List ℕ) (parts : List Node) (list : Trees) → 1 < length parts → trees_of (map tree_of (take (length parts - 1) (drop 1 parts))) ≡ list_behind list (branch id from to kind text (trees_of (map tree_of parts)))
behind_own_parts id from to kind text [] list lt = absurd (omega arith)
behind_own_parts id from to kind text (x ∷ []) list lt = absurd (omega arith)
behind_own_parts id from to kind text (x ∷ (y ∷ parts)) list lt =
    let e : length (x ∷ (y ∷ parts)) - 1 ≡ length (y ∷ parts) = omega arith in
    rw e (ap (λ (xs : List Node). trees_of (map tree_of xs)) (whole (y ∷ parts)))
