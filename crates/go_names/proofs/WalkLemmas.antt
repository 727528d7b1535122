-- Walks over the parts of a node that are read further: what is found in them, and why the walks end.
use Rattle.std.proofs.Common.{◌≡◌, ℕ, ◌+◌, ◌<◌, ◌≤◌, List, [], ◌∷◌, ◌++◌, Option, length, get_or, map, refl, sym, ap, subst, ◌∙◌, arith}
use Rattle.std.specs.Borrow.{Bor}
use Rattle.std.specs.List.{flat_map, All, Contains}
use Rattle.std.proofs.lemmas.List.{get_or-map, length-map}
use Rattle.std.proofs.lemmas.List.Elements.{All-nil, All-cons, All-weaker, All-contains, All-get_or}
use Rattle.go_tree.specs.declared.node.Node.{Node}
use Rattle.go_tree.specs.declared.node_kind.NodeKind.{NodeKind}
use Rattle.go_tree.specs.declared.node_kind.NodeKind.TheVariants.{Name, SelectorExpr}
use Rattle.go_tree.specs.Tree.{Tree, branch, Trees, no_trees, more_trees, id_of, kind_of, start_of, text_of, parts_of, list_of, tree_of, node_count, node_count_of_all}
use Rattle.go_module.specs.declared.block.Occurrence.{Occurrence}
use Rattle.go_module.specs.Names.Inner.{inner_of, inner_by, inner_parts}
use Rattle.go_module.specs.Names.Occurrences.{found_in, occurrence, with_selected, names_at, names_in, names_of_each, nodes_in, nodes_of_each}
use Rattle.go_names.specs.Views.{trees_at}
use Rattle.go_names.proofs.InnerLemmas.{all_inner, inner_by-map}

-- what is found in parts, each beside what is found in it

found_beside : {A : Type 0} (g : Tree → List A) (ts : List Tree) → flat_map (λ (part : Tree × List A). part.1) (map (λ t. (t, g t)) ts) ≡ flat_map g ts
found_beside g [] = refl
found_beside g (t ∷ ts) = ap (λ found. g t ++ found) (found_beside g ts)

pub found_in-each : {A : Type 0} (g : Tree → List A) (kind : NodeKind) (ts : List Tree) → found_in kind (map (λ t. (t, g t)) ts) ≡ flat_map g (inner_by (λ t. t) (inner_of kind) ts)
found_in-each {A} g kind ts =
    let first : Tree × List A → Tree = λ part. part.0 in
    let beside : Tree → Tree × List A = λ t. (t, g t) in
    let found : List (Tree × List A) → List A = λ parts. flat_map (λ (part : Tree × List A). part.1) parts in
    ap found (sym (inner_by-map first beside (inner_of kind) ts)) ∙ found_beside g (inner_by (λ t. t) (inner_of kind) ts)

-- the nodes in a node

nodes_of_each-map : (ts : Trees) → nodes_of_each ts ≡ map (λ t. (t, nodes_in t)) (list_of ts)
nodes_of_each-map no_trees = refl
nodes_of_each-map (more_trees t ts) = ap (λ rest. (t, nodes_in t) ∷ rest) (nodes_of_each-map ts)

-- a node before those in its inner parts
pub nodes_in-inner : (t : Tree) → nodes_in t ≡ t ∷ flat_map nodes_in (inner_parts t)
nodes_in-inner (branch id from to kind text parts) =
    ap (λ found. branch id from to kind text parts ∷ found) (ap (found_in kind) (nodes_of_each-map parts) ∙ found_in-each nodes_in kind (list_of parts))

-- the names in a node

names_of_each-map : (file : ℕ) (told_at : Option ℕ) (ts : Trees) → names_of_each file told_at ts ≡ map (λ t. (t, names_in file told_at t)) (list_of ts)
names_of_each-map file told_at no_trees = refl
names_of_each-map file told_at (more_trees t ts) = ap (λ rest. (t, names_in file told_at t) ∷ rest) (names_of_each-map file told_at ts)

found_in_parts : (file : ℕ) (told_at : Option ℕ) (kind : NodeKind) (ts : Trees) → found_in kind (names_of_each file told_at ts) ≡ flat_map (names_in file told_at) (inner_by (λ t. t) (inner_of kind) (list_of ts))
found_in_parts file told_at kind ts = ap (found_in kind) (names_of_each-map file told_at ts) ∙ found_in-each (names_in file told_at) kind (list_of ts)

names_at-other : (file : ℕ) (told_at : Option ℕ) (kind : NodeKind) (id from : ℕ) (text : List ℕ) (parts : List (Tree × List Occurrence)) → (kind ≡ Name → ⊥) → (kind ≡ SelectorExpr → ⊥) → names_at file told_at kind id from text parts ≡ found_in kind parts
names_at-other file told_at Name id from text parts no_name no_selector = absurd (no_name refl)
names_at-other file told_at SelectorExpr id from text parts no_name no_selector = absurd (no_selector refl)
names_at-other file told_at kind id from text parts no_name no_selector = refl

-- in a node that is neither a name nor `x.f`: those in its inner parts
pub names_in-inner : (file : ℕ) (told_at : Option ℕ) (t : Tree) → (kind_of t ≡ Name → ⊥) → (kind_of t ≡ SelectorExpr → ⊥) → names_in file told_at t ≡ flat_map (names_in file told_at) (inner_parts t)
names_in-inner file told_at (branch id from to kind text parts) no_name no_selector =
    names_at-other file told_at kind id from text (names_of_each file told_at parts) no_name no_selector ∙ found_in_parts file told_at kind parts

-- in a name: itself
pub names_in-name : (file : ℕ) (told_at : Option ℕ) (t : Tree) → kind_of t ≡ Name → names_in file told_at t ≡ occurrence file told_at (id_of t) (start_of t) (text_of t) ∷ []
names_in-name file told_at (branch id from to kind text parts) name =
    ap (λ k. names_at file told_at k id from text (names_of_each file told_at parts)) name

selector_of : (file : ℕ) (told_at : Option ℕ) (id from : ℕ) (text : List ℕ) (operand name : Tree) (parts : Trees) → parts ≡ more_trees operand (more_trees name no_trees) → names_at file told_at SelectorExpr id from text (names_of_each file told_at parts) ≡ with_selected file told_at operand name (names_in file told_at operand)
selector_of file told_at id from text operand name parts two =
    ap (λ ts. names_at file told_at SelectorExpr id from text (names_of_each file told_at ts)) two

-- in `x.f`: those in its operand, with the name behind the `.`
pub names_in-selector : (file : ℕ) (told_at : Option ℕ) (t operand name : Tree) → kind_of t ≡ SelectorExpr → parts_of t ≡ more_trees operand (more_trees name no_trees) → names_in file told_at t ≡ with_selected file told_at operand name (names_in file told_at operand)
names_in-selector file told_at (branch id from to kind text parts) operand name selects two =
    ap (λ k. names_at file told_at k id from text (names_of_each file told_at parts)) selects ∙ selector_of file told_at id from text operand name parts two

odd_selector : (file : ℕ) (told_at : Option ℕ) (id from : ℕ) (text : List ℕ) (parts : Trees) → ((a b : Tree) → parts ≡ more_trees a (more_trees b no_trees) → ⊥) → names_at file told_at SelectorExpr id from text (names_of_each file told_at parts) ≡ found_in SelectorExpr (names_of_each file told_at parts)
odd_selector file told_at id from text no_trees odd = refl
odd_selector file told_at id from text (more_trees a no_trees) odd = refl
odd_selector file told_at id from text (more_trees a (more_trees b no_trees)) odd = absurd (odd a b refl)
odd_selector file told_at id from text (more_trees a (more_trees b (more_trees c ts))) odd = refl

odd_selector_of : (file : ℕ) (told_at : Option ℕ) (kind : NodeKind) (id from : ℕ) (text : List ℕ) (parts : Trees) → kind ≡ SelectorExpr → ((a b : Tree) → parts ≡ more_trees a (more_trees b no_trees) → ⊥) → names_at file told_at kind id from text (names_of_each file told_at parts) ≡ found_in kind (names_of_each file told_at parts)
odd_selector_of file told_at kind id from text parts selects odd =
    ap (λ k. names_at file told_at k id from text (names_of_each file told_at parts)) selects
    ∙ odd_selector file told_at id from text parts odd
    ∙ ap (λ k. found_in k (names_of_each file told_at parts)) (sym selects)

-- in a selector of other than two parts: those in its inner parts
pub names_in-odd_selector : (file : ℕ) (told_at : Option ℕ) (t : Tree) → kind_of t ≡ SelectorExpr → ((a b : Tree) → parts_of t ≡ more_trees a (more_trees b no_trees) → ⊥) → names_in file told_at t ≡ flat_map (names_in file told_at) (inner_parts t)
names_in-odd_selector file told_at (branch id from to kind text parts) selects odd =
    odd_selector_of file told_at kind id from text parts selects odd ∙ found_in_parts file told_at kind parts

-- an inner part has fewer nodes

count_within : (ts : Trees) → All (λ u. node_count u ≤ node_count_of_all ts) (list_of ts)
count_within no_trees = All-nil (λ u. node_count u ≤ 0)
count_within (more_trees t ts) =
    All-cons (λ u. node_count u ≤ node_count t + node_count_of_all ts) t (list_of ts) (omega arith)
    (All-weaker (λ u. node_count u ≤ node_count_of_all ts) (λ u. node_count u ≤ node_count t + node_count_of_all ts) (λ u le. omega arith) (list_of ts) (count_within ts))

parts_smaller : (t : Tree) → All (λ u. node_count u < node_count t) (list_of (parts_of t))
parts_smaller (branch id from to kind text parts) =
    All-weaker (λ u. node_count u ≤ node_count_of_all parts) (λ u. node_count u < 1 + node_count_of_all parts) (λ u le. omega arith) (list_of parts) (count_within parts)

pub all_inner_smaller : (t : Tree) → All (λ u. node_count u < node_count t) (inner_parts t)
all_inner_smaller t = all_inner (λ u. u) (λ u. node_count u < node_count t) (inner_of (kind_of t)) (list_of (parts_of t)) (parts_smaller t)

pub inner_smaller : (t u : Tree) → Contains (inner_parts t) u → node_count u < node_count t
inner_smaller t u within = All-contains (λ u. node_count u < node_count t) (inner_parts t) u (all_inner_smaller t) within

-- the same of the node at a place of the list that `inner_parts` answers
pub inner_node_smaller : (parts : List (Bor Node)) (t : Tree) (i : ℕ) (d : Bor Node) → trees_at parts ≡ inner_parts t → i < length parts → node_count (tree_of (get_or parts i d).now) < node_count t
inner_node_smaller parts t i d inner lt =
    let Smaller : Tree → Type 0 = λ u. node_count u < node_count t in
    let all : All Smaller (trees_at parts) = subst (All Smaller) (sym inner) (all_inner_smaller t) in
    let long : i < length (trees_at parts) = omega (arith, length-map {A = Bor Node} {B = Tree}) in
    subst Smaller (get_or-map (λ (node : Bor Node). tree_of node.now) parts i d (tree_of d.now) lt) (All-get_or Smaller (trees_at parts) i (tree_of d.now) long all)

-- the same of the part of a turn of a loop over that list
pub inner_part_smaller : (items parts : List (Bor Node)) (t : Tree) (i : ℕ) (part : Bor Node) → items ≡ parts → trees_at parts ≡ inner_parts t → i < length items → part ≡ get_or items i part → node_count (tree_of part.now) < node_count t
inner_part_smaller items parts t i part same inner lt is =
    let smaller = inner_node_smaller items t i part (ap trees_at same ∙ inner) lt in
    let count : node_count (tree_of part.now) ≡ node_count (tree_of (get_or items i part).now) = ap (λ (node : Bor Node). node_count (tree_of node.now)) is in
    omega (arith, smaller, count)
