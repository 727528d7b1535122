-- The nodes of trees with their copies, counted.
use Rattle.std.proofs.Common.{◌≡◌, ℕ, suc, ◌+◌, ◌-◌, ◌^◌, ◌<◌, ◌≤◌, min, Bool, true, false, if◌then◌else◌, List, [], ◌∷◌, ◌++◌, length, map, get_or, drop, drop-cons, add-one, append_assoc, ◌⊎◌, refl, ap, sym, subst, ◌∙◌, arith}
use Rattle.std.proofs.lemmas.List.{append-nil}
use Rattle.go_tree.specs.declared.node.Node.{Node}
use Rattle.go_tree.specs.declared.node_kind.NodeKind.{NodeKind}
use Rattle.go_tree.specs.Tree.{Tree, branch, Trees, no_trees, more_trees, kind_of, parts_of, tree_of, trees_of, list_of, node_count, node_count_of_all}
use Rattle.go_text.specs.Copies.{with_copies, all_with_copies, specs_with_copies, completed, list_behind, is_group}
use Rattle.go_text.specs.CopyCount.{copied_nodes, copied_among, is_copy}
use Rattle.go_parse_s.specs.Counted.{capped, behind_first, AreCounts, AreCountsOfAll}
use Rattle.go_text.specs.Numbers.{numbered, all_numbered}
use Rattle.go_parse_s.specs.declared.copy_count.Counts.{Counts}
use Rattle.go_parse_s.proofs.CopyLemmas.{trees_of-list_of}

mutual
  node_count-numbered : (n : ℕ) (t : Tree) → node_count (numbered n t) ≡ node_count t
  node_count-numbered n (branch id from to kind text parts) = ap (λ k. 1 + k) (count-numbered n parts)

  count-numbered : (n : ℕ) (ts : Trees) → node_count_of_all (all_numbered n ts) ≡ node_count_of_all ts
  count-numbered n no_trees = refl
  count-numbered n (more_trees t ts) = let a = node_count-numbered n t in let b = count-numbered (n + node_count t) ts in omega (arith, a, b)

mutual
  -- numbers are of no account for it
  pub copied_nodes-numbered : (n : ℕ) (t : Tree) → copied_nodes (numbered n t) ≡ copied_nodes t
  copied_nodes-numbered n (branch id from to kind text parts) = rw (count-numbered n parts, copied_among-numbered n parts) refl

  copied_among-numbered : (n : ℕ) (ts : Trees) → copied_among (all_numbered n ts) ≡ copied_among ts
  copied_among-numbered n no_trees = refl
  copied_among-numbered n (more_trees t ts) = let a = copied_nodes-numbered n t in let b = copied_among-numbered (n + node_count t) ts in omega (arith, a, b)

-- sums of capped numbers
capped_sum : (m a b : ℕ) → min (min a m + min b m) m ≡ min (a + b) m
capped_sum m a b = omega arith

sum_of : (a b x y z : ℕ) → x ≡ capped a → y ≡ capped b → z ≡ capped (x + y) → z ≡ capped (a + b)
sum_of a b x y z p q r = r ∙ (rw (p, q) (capped_sum (2 ^ 64 - 1) a b))

some_node : (t : Tree) → 0 < node_count t
some_node (branch id from to kind text parts) = omega arith

-- one tree more
snoc_nodes : (ts : List Tree) (t : Tree) → node_count_of_all (trees_of (ts ++ t ∷ [])) ≡ node_count_of_all (trees_of ts) + node_count t
snoc_nodes [] t = omega arith
snoc_nodes (x ∷ xs) t = let r = snoc_nodes xs t in omega (arith, r)

snoc_copied : (ts : List Tree) (t : Tree) → copied_among (trees_of (ts ++ t ∷ [])) ≡ copied_among (trees_of ts) + copied_nodes t
snoc_copied [] t = omega arith
snoc_copied (x ∷ xs) t = let r = snoc_copied xs t in omega (arith, r)

snoc_list : (all one : Counts) (ts : List Tree) (t : Tree) (list : ℕ) → AreCountsOfAll all (trees_of ts) → AreCounts one t → (all.nodes ≡ 0 → list ≡ 0) → (0 < all.nodes → list ≡ capped (all.list + one.nodes)) → list ≡ capped (node_count_of_all (behind_first (trees_of (ts ++ t ∷ []))))
snoc_list all one [] t list h k none some = none h.nodes
snoc_list all one (x ∷ xs) t list h k none some =
    let first = some_node x in
    let many : 0 < all.nodes = let n = h.nodes in omega arith in
    sum_of _ _ _ _ list h.list k.nodes (some many) ∙ ap capped (sym (snoc_nodes xs t))

pub one_more : (all one both : Counts) (ts : List Tree) (t : Tree) → AreCountsOfAll all (trees_of ts) → AreCounts one t → both.nodes ≡ capped (all.nodes + one.nodes) → (all.nodes ≡ 0 → both.list ≡ 0) → (0 < all.nodes → both.list ≡ capped (all.list + one.nodes)) → both.copied ≡ capped (all.copied + one.copied) → AreCountsOfAll both (trees_of (ts ++ t ∷ []))
one_more all one both ts t h k nodes none some copied = record {
  nodes = sum_of _ _ _ _ both.nodes h.nodes k.nodes nodes ∙ ap capped (sym (snoc_nodes ts t));
  list = snoc_list all one ts t both.list h k none some;
  copied = sum_of _ _ _ _ both.copied h.copied k.copied copied ∙ ap capped (sym (snoc_copied ts t));
}

-- a spec that keeps what it has
pub kept_alone : (c : Counts) (t : Tree) (list : ℕ) (before : Trees) → (c.nodes ≡ 1) ⊎ ((0 < c.list) ⊎ (list ≡ 0)) → AreCounts c t → list ≡ capped (node_count_of_all before) → AreCounts c (completed before t)
kept_alone c (branch id from to kind text no_trees) list before w h q = h
kept_alone c (branch id from to kind text (more_trees names no_trees)) list no_trees w h q = h
kept_alone c (branch id from to kind text (more_trees names no_trees)) list (more_trees t ts) w h q =
    let a = some_node names in
    let b = some_node t in
    let nodes = h.nodes in
    let none = h.list in
    absurd (omega arith)
kept_alone c (branch id from to kind text (more_trees names (more_trees t ts))) list before w h q = h

with_copy : (b : Bool) (n x k : ℕ) → (if b then 1 + (n + 0) else x + 0) + k ≡ (if b then 1 + (n + (k + 0)) else x + (k + 0))
with_copy true n x k = omega arith
with_copy false n x k = omega arith

one_node_more : (n : ℕ) → capped (capped n + 1) ≡ capped (1 + n)
one_node_more n = omega arith

-- a spec that is given a copy
pub given_copy : (c made : Counts) (t : Tree) (list : ℕ) (before : Trees) → (c.nodes ≡ 1 → ⊥) → c.list ≤ 0 → (list ≡ 0 → ⊥) → AreCounts c t → list ≡ capped (node_count_of_all before) → made.list ≡ capped (list + 1) → made.nodes ≡ capped (c.nodes + made.list) → made.copied ≡ capped (c.copied + made.list) → AreCounts made (completed before t)
given_copy c made (branch id from to kind text no_trees) list before one own none h q l n k = absurd (one h.nodes)
given_copy c made (branch id from to kind text (more_trees names no_trees)) list no_trees one own none h q l n k = absurd (none q)
given_copy c made (branch id from to kind text (more_trees names no_trees)) list (more_trees t ts) one own none h q l n k =
    let copy : made.list ≡ capped (1 + node_count_of_all (more_trees t ts)) = l ∙ (rw q (one_node_more (node_count_of_all (more_trees t ts)))) in
    record {
      nodes = sum_of _ _ _ _ made.nodes h.nodes copy n ∙ ap capped (omega arith);
      list = copy ∙ ap capped (omega arith);
      copied = sum_of _ _ _ _ made.copied h.copied copy k ∙ ap capped (with_copy (is_copy kind) (node_count names) (copied_nodes names) (1 + node_count_of_all (more_trees t ts)));
    }
given_copy c made (branch id from to kind text (more_trees names (more_trees t ts))) list before one own none h q l n k =
    let some = some_node t in
    let w = h.list in
    absurd (omega arith)

-- the list of a spec that has none is the one before
pub list_before : (c : Counts) (t : Tree) (list : ℕ) (before : Trees) → c.list ≤ 0 → AreCounts c t → list ≡ capped (node_count_of_all before) → list ≡ capped (node_count_of_all (list_behind before t))
list_before c (branch id from to kind text no_trees) list before none h q = q
list_before c (branch id from to kind text (more_trees names no_trees)) list before none h q = q
list_before c (branch id from to kind text (more_trees names (more_trees t ts))) list before none h q =
    let some = some_node t in
    let w = h.list in
    absurd (omega arith)

-- a node, by what is counted of its parts
pub node_counts : (parts c : Counts) (t : Tree) (kind : NodeKind) (b : Bool) → kind ≡ kind_of t → b ≡ is_group kind → AreCountsOfAll parts (if b then specs_with_copies no_trees (parts_of t) else all_with_copies (parts_of t)) → ((id from to : ℕ) (text : List ℕ) (ts : Trees) → AreCountsOfAll parts ts → AreCounts c (branch id from to kind text ts)) → AreCounts c (with_copies t)
node_counts parts c (branch id from to k text ts) kind b q e h above =
    let P : NodeKind → Type 0 = λ x. AreCounts c (branch id from to x text (if is_group x then specs_with_copies no_trees ts else all_with_copies ts)) in
    let Q : Bool → Type 0 = λ x. AreCountsOfAll parts (if x then specs_with_copies no_trees ts else all_with_copies ts) in
    subst P q (above id from to text _ (subst Q e h))

-- ---- walks: what is done, and what is left

left : (xs : List Node) (i : ℕ) (x : Node) → i < length xs → x ≡ get_or xs i x → drop i xs ≡ x ∷ drop (i + 1) xs
left xs i x lt e = drop-cons xs i x lt ∙ ap (λ y. y ∷ drop (suc i) xs) (sym e) ∙ ap (λ n. x ∷ drop n xs) (sym (add-one i))

pub next_part : (done : List Tree) (xs : List Node) (i : ℕ) (x : Node) (whole : List Tree) → i < length xs → x ≡ get_or xs i x → done ++ list_of (all_with_copies (trees_of (map tree_of (drop i xs)))) ≡ whole → (done ++ with_copies (tree_of x) ∷ []) ++ list_of (all_with_copies (trees_of (map tree_of (drop (i + 1) xs)))) ≡ whole
next_part done xs i x whole lt e h =
    let rest : List Node → List Tree = λ ys. done ++ list_of (all_with_copies (trees_of (map tree_of ys))) in
    append_assoc done _ _ ∙ ap rest (sym (left xs i x lt e)) ∙ h

pub next_spec : (done : List Tree) (list : Trees) (xs : List Node) (i : ℕ) (x : Node) (whole : List Tree) → i < length xs → x ≡ get_or xs i x → done ++ list_of (specs_with_copies list (trees_of (map tree_of (drop i xs)))) ≡ whole → (done ++ completed list (with_copies (tree_of x)) ∷ []) ++ list_of (specs_with_copies (list_behind list (with_copies (tree_of x))) (trees_of (map tree_of (drop (i + 1) xs)))) ≡ whole
next_spec done list xs i x whole lt e h =
    let rest : List Node → List Tree = λ ys. done ++ list_of (specs_with_copies list (trees_of (map tree_of ys))) in
    append_assoc done _ _ ∙ ap rest (sym (left xs i x lt e)) ∙ h

pub all_are : (c : Counts) (done : List Tree) (ts : Trees) → AreCountsOfAll c (trees_of done) → done ++ [] ≡ list_of ts → AreCountsOfAll c ts
all_are c done ts h q = subst (AreCountsOfAll c) (ap trees_of (sym (append-nil done) ∙ q) ∙ trees_of-list_of ts) h
