-- A walk over nodes in their order, each of which it changes by what it saw before.
use Rattle.std.proofs.Common.{◌≡◌, ℕ, zero, suc, ◌+◌, ◌<◌, ◌≤◌, List, [], ◌∷◌, length, map, get_or, refl, ap, sym, ◌∙◌, arith}
use Rattle.std.proofs.Math.ListN.{set}
use Rattle.go_tree.specs.declared.node.Node.{Node}
use Rattle.go_tree.specs.Tree.{Tree, Trees, no_trees, more_trees, tree_of, trees_of, node_count, node_count_of_all}
use Rattle.go_text.specs.Numbers.{numbered, all_numbered}

-- the trees of a walk, the first i of which it has changed; s is what it saw before the next
abbrev pub trees_behind : {S : Type 0} (f : S → Tree → Tree) (g : S → Tree → S) → ℕ → S → List Node → Trees
trees_behind f g zero s [] = no_trees
trees_behind f g zero s (x ∷ xs) = more_trees (f s (tree_of x)) (trees_behind f g zero (g s (tree_of x)) xs)
trees_behind f g (suc i) s [] = no_trees
trees_behind f g (suc i) s (x ∷ xs) = more_trees (tree_of x) (trees_behind f g i s xs)

-- what it will have seen at its end
abbrev pub seen_behind : {S : Type 0} (g : S → Tree → S) → ℕ → S → List Node → S
seen_behind g zero s [] = s
seen_behind g zero s (x ∷ xs) = seen_behind g zero (g s (tree_of x)) xs
seen_behind g (suc i) s [] = s
seen_behind g (suc i) s (x ∷ xs) = seen_behind g i s xs

one_more : (i : ℕ) → suc i ≡ i + 1
one_more i = omega arith

trees_step : {S : Type 0} (f : S → Tree → Tree) (g : S → Tree → S) (i : ℕ) (s : S) (xs : List Node) (y d : Node) → i < length xs → tree_of y ≡ f s (tree_of (get_or xs i d)) → trees_behind f g (suc i) (g s (tree_of (get_or xs i d))) (set xs i y) ≡ trees_behind f g i s xs
trees_step f g i s [] y d lt e = absurd (omega arith)
trees_step f g zero s (x ∷ xs) y d lt e = ap (λ t. more_trees t (trees_behind f g zero (g s (tree_of x)) xs)) e
trees_step f g (suc i) s (x ∷ xs) y d lt e = ap (λ ts. more_trees (tree_of x) ts) (trees_step f g i s xs y d (omega arith) e)

seen_step : {S : Type 0} (g : S → Tree → S) (i : ℕ) (s : S) (xs : List Node) (y d : Node) → i < length xs → seen_behind g (suc i) (g s (tree_of (get_or xs i d))) (set xs i y) ≡ seen_behind g i s xs
seen_step g i s [] y d lt = absurd (omega arith)
seen_step g zero s (x ∷ xs) y d lt = refl
seen_step g (suc i) s (x ∷ xs) y d lt = seen_step g i s xs y d (omega arith)

-- one node more
pub step_trees : {S : Type 0} (f : S → Tree → Tree) (g : S → Tree → S) (i : ℕ) (s next : S) (xs : List Node) (y d : Node) → i < length xs → tree_of y ≡ f s (tree_of (get_or xs i d)) → next ≡ g s (tree_of (get_or xs i d)) → trees_behind f g (i + 1) next (set xs i y) ≡ trees_behind f g i s xs
step_trees f g i s next xs y d lt e q = ap (λ n. trees_behind f g n next (set xs i y)) (sym (one_more i)) ∙ ap (λ n. trees_behind f g (suc i) n (set xs i y)) q ∙ trees_step f g i s xs y d lt e

pub step_seen : {S : Type 0} (g : S → Tree → S) (i : ℕ) (s next : S) (xs : List Node) (y d : Node) → i < length xs → next ≡ g s (tree_of (get_or xs i d)) → seen_behind g (i + 1) next (set xs i y) ≡ seen_behind g i s xs
step_seen g i s next xs y d lt q = ap (λ n. seen_behind g n next (set xs i y)) (sym (one_more i)) ∙ ap (λ n. seen_behind g (suc i) n (set xs i y)) q ∙ seen_step g i s xs y d lt

-- all of them
pub all_trees : {S : Type 0} (f : S → Tree → Tree) (g : S → Tree → S) (i : ℕ) (s : S) (xs : List Node) → length xs ≤ i → trees_behind f g i s xs ≡ trees_of (map tree_of xs)
all_trees f g zero s [] le = refl
all_trees f g zero s (x ∷ xs) le = absurd (omega arith)
all_trees f g (suc i) s [] le = refl
all_trees f g (suc i) s (x ∷ xs) le = ap (λ ts. more_trees (tree_of x) ts) (all_trees f g i s xs (omega arith))

pub all_seen : {S : Type 0} (g : S → Tree → S) (i : ℕ) (s : S) (xs : List Node) → length xs ≤ i → seen_behind g i s xs ≡ s
all_seen g zero s [] le = refl
all_seen g zero s (x ∷ xs) le = absurd (omega arith)
all_seen g (suc i) s [] le = refl
all_seen g (suc i) s (x ∷ xs) le = all_seen g i s xs (omega arith)

-- numbers: what is seen is the next number
abbrev pub count_on : ℕ → Tree → ℕ
count_on n t = n + node_count t

pub all_numbered-walk : (n : ℕ) (xs : List Node) → trees_behind numbered count_on zero n xs ≡ all_numbered n (trees_of (map tree_of xs))
all_numbered-walk n [] = refl
all_numbered-walk n (x ∷ xs) = ap (λ ts. more_trees (numbered n (tree_of x)) ts) (all_numbered-walk (n + node_count (tree_of x)) xs)

pub count-walk : (n : ℕ) (xs : List Node) → seen_behind count_on zero n xs ≡ n + node_count_of_all (trees_of (map tree_of xs))
count-walk n [] = omega arith
count-walk n (x ∷ xs) = let r = count-walk (n + node_count (tree_of x)) xs in omega (arith, r)
