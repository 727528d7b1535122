-- Operands: what a fold over them gives, and why walks over them end.
use Rattle.std.proofs.Common.{◌≡◌, ℕ, zero, suc, ◌+◌, ◌<◌, ◌≤◌, Bool, true, false, cond, List, [], ◌∷◌, ◌++◌, length, get_or, map, refl, sym, ap, subst, ◌∙◌, arith}
use Rattle.std.specs.Borrow.{Bor}
use Rattle.std.specs.List.{flat_map, All, Contains}
use Rattle.std.proofs.lemmas.List.{map-append, get_or-map, length-map}
use Rattle.std.proofs.lemmas.List.Folds.{flat_map-map}
use Rattle.std.proofs.lemmas.List.Elements.{All-nil, All-cons, All-head, All-tail, All-append, All-map, All-weaker, All-contains, All-get_or, All-contains_itself, Contains-append_left, Contains-append_right, Contains-push}
use Rattle.go_tree.specs.declared.node.Node.{Node}
use Rattle.go_tree.specs.declared.node_kind.NodeKind.{NodeKind}
use Rattle.go_tree.specs.declared.node_kind.NodeKind.TheVariants.{ArrowExpr, ChanType}
use Rattle.go_tree.specs.Tree.{Tree, branch, Trees, no_trees, more_trees, kind_of, parts_of, list_of, tree_of, node_count, node_count_of_all}
use Rattle.go_module.specs.Names.Inner.{inner_of, inner_by, inner_parts}
use Rattle.go_module.specs.Names.Occurrences.{nodes_in}
use Rattle.go_names.specs.Views.{trees_at}
use Rattle.go_names.proofs.InnerLemmas.{all_inner, inner_by-map}
use Rattle.go_names.proofs.WalkLemmas.{nodes_in-inner}
use Rattle.go_operands.specs.Operands.{passes, Folded, handed, standing_in, held_in, folded, folded_each, operands_of, held_by, held_of, operands_from, with_all, expressions_in}

-- lists

flat_map-same : {X Y : Type 0} (f g : X → List Y) (same : (x : X) → f x ≡ g x) (xs : List X) → flat_map f xs ≡ flat_map g xs
flat_map-same f g same [] = refl
flat_map-same f g same (x ∷ xs) = ap (λ ys. ys ++ flat_map f xs) (same x) ∙ ap (λ ys. g x ++ ys) (flat_map-same f g same xs)

map-flat_map : {X Y Z : Type 0} (h : Y → Z) (f : X → List Y) (xs : List X) → map h (flat_map f xs) ≡ flat_map (λ x. map h (f x)) xs
map-flat_map h f [] = refl
map-flat_map h f (x ∷ xs) = map-append h (f x) (flat_map f xs) ∙ ap (λ zs. map h (f x) ++ zs) (map-flat_map h f xs)

all_flat_map : {X Y : Type 0} (P : Y → Type 0) (f : X → List Y) (xs : List X) → All (λ x. All P (f x)) xs → All P (flat_map f xs)
all_flat_map P f [] all = All-nil P
all_flat_map P f (x ∷ xs) all =
    All-append P (f x) (flat_map f xs) (All-head (λ y. All P (f y)) x xs all) (all_flat_map P f xs (All-tail (λ y. All P (f y)) x xs all))

-- a fold by what the fold that keeps nodes has

abbrev keep : Tree → List Tree → Tree
keep node operands = node

abbrev mapped : {A B : Type 0} → (A → B) → Folded A → Folded B
mapped f found = record { own = f found.own; held = map f found.held }

abbrev beside : {A B : Type 0} → (A → B) → Tree × Folded A → Tree × Folded B
beside f part = (part.0, mapped f part.1)

cond-mapped : {A B : Type 0} (f : A → B) (b : Bool) (found : Folded A) → cond b (map f found.held) (f found.own ∷ []) ≡ map f (cond b found.held (found.own ∷ []))
cond-mapped f true found = refl
cond-mapped f false found = refl

handed-mapped : {A B : Type 0} (f : A → B) (kind : NodeKind) (part : Tree × Folded A) → handed kind (beside f part) ≡ map f (handed kind part)
handed-mapped f kind part = cond-mapped f (passes kind (kind_of part.0)) part.1

standing_in-mapped : {A B : Type 0} (f : A → B) (kind : NodeKind) (parts : List (Tree × Folded A)) → standing_in kind (map (beside f) parts) ≡ map f (standing_in kind parts)
standing_in-mapped {A} {B} f kind parts =
    let inner = inner_by (λ (part : Tree × Folded A). part.0) (inner_of kind) parts in
    ap (flat_map (handed kind)) (sym (inner_by-map (λ (part : Tree × Folded B). part.0) (beside f) (inner_of kind) parts))
    ∙ flat_map-map (handed kind) (beside f) inner
    ∙ flat_map-same (λ part. handed kind (beside f part)) (λ part. map f (handed kind part)) (handed-mapped f kind) inner
    ∙ sym (map-flat_map f (handed kind) inner)

own-mapped : {A B : Type 0} (f : A → B) (parts : List (Tree × Folded A)) → map (λ part. part.1.own) (map (beside f) parts) ≡ map f (map (λ part. part.1.own) parts)
own-mapped f [] = refl
own-mapped f (part ∷ parts) = ap (λ found. f part.1.own ∷ found) (own-mapped f parts)

held_in-mapped : {A B : Type 0} (f : A → B) (kind : NodeKind) (parts : List (Tree × Folded A)) → held_in kind (map (beside f) parts) ≡ map f (held_in kind parts)
held_in-mapped f ArrowExpr parts = own-mapped f parts
held_in-mapped f ChanType parts = own-mapped f parts
held_in-mapped f kind parts = standing_in-mapped f kind parts

mutual
  folded-mapped : {A : Type 0} (own : Tree → List A → A) (t : Tree) → folded own t ≡ mapped (λ u. (folded own u).own) (folded keep t)
  folded-mapped {A} own (branch id from to kind text parts) =
      let found : Tree → A = λ u. (folded own u).own in
      let t = branch id from to kind text parts in
      let with_held : List A → Folded A = λ held. record { own = found t; held = held } in
      ap with_held (ap (held_in kind) (folded_each-mapped own parts) ∙ held_in-mapped found kind (folded_each keep parts))

  folded_each-mapped : {A : Type 0} (own : Tree → List A → A) (ts : Trees) → folded_each own ts ≡ map (beside (λ u. (folded own u).own)) (folded_each keep ts)
  folded_each-mapped own no_trees = refl
  folded_each-mapped {A} own (more_trees t ts) =
      let each = beside (λ u. (folded own u).own) in
      ap (λ (found : Folded A). (t, found) ∷ folded_each own ts) (folded-mapped own t)
      ∙ ap (λ rest. each (t, folded keep t) ∷ rest) (folded_each-mapped own ts)

-- what comes to a node, by what comes to its operands
pub folded-operands : {A : Type 0} (own : Tree → List A → A) (t : Tree) → (folded own t).own ≡ own t (map (λ u. (folded own u).own) (operands_of t))
folded-operands own (branch id from to kind text parts) =
    ap (own (branch id from to kind text parts)) (ap (standing_in kind) (folded_each-mapped own parts)
    ∙ standing_in-mapped (λ u. (folded own u).own) kind (folded_each keep parts))

-- a node before what stands in its operands
pub expressions_in-operands : (t : Tree) → expressions_in t ≡ t ∷ flat_map expressions_in (operands_of t)
expressions_in-operands t =
    folded-operands with_all t ∙ ap (λ found. t ∷ found) (flat_map-map (λ (nodes : List Tree). nodes) expressions_in (operands_of t))

-- operands by inner parts

folded_each-map : {A : Type 0} (own : Tree → List A → A) (ts : Trees) → folded_each own ts ≡ map (λ u. (u, folded own u)) (list_of ts)
folded_each-map own no_trees = refl
folded_each-map own (more_trees t ts) = ap (λ rest. (t, folded own t) ∷ rest) (folded_each-map own ts)

standing_in-inner : {A : Type 0} (own : Tree → List A → A) (kind : NodeKind) (ts : Trees) → standing_in kind (folded_each own ts) ≡ flat_map (λ u. handed kind (u, folded own u)) (inner_by (λ u. u) (inner_of kind) (list_of ts))
standing_in-inner {A} own kind ts =
    let with_found : Tree → Tree × Folded A = λ u. (u, folded own u) in
    ap (standing_in kind) (folded_each-map own ts)
    ∙ ap (flat_map (handed kind)) (sym (inner_by-map (λ (part : Tree × Folded A). part.0) with_found (inner_of kind) (list_of ts)))
    ∙ flat_map-map (handed kind) with_found (inner_by (λ u. u) (inner_of kind) (list_of ts))

kept_own : (t : Tree) → (folded keep t).own ≡ t
kept_own (branch id from to kind text parts) = refl

kept_parts : (ts : Trees) → map (λ part. part.1.own) (folded_each keep ts) ≡ list_of ts
kept_parts no_trees = refl
kept_parts (more_trees t ts) = ap (λ u. u ∷ map (λ part. part.1.own) (folded_each keep ts)) (kept_own t) ∙ ap (λ us. t ∷ us) (kept_parts ts)

kept_held_at : (id from to : ℕ) (kind : NodeKind) (text : List ℕ) (parts : Trees) → held_in kind (folded_each keep parts) ≡ held_by kind (branch id from to kind text parts)
kept_held_at id from to ArrowExpr text parts = kept_parts parts
kept_held_at id from to ChanType text parts = kept_parts parts
kept_held_at id from to kind text parts = refl

kept_held : (t : Tree) → (folded keep t).held ≡ held_of t
kept_held (branch id from to kind text parts) = kept_held_at id from to kind text parts

handed-kept : (kind : NodeKind) (t : Tree) → handed kind (t, folded keep t) ≡ operands_from kind t
handed-kept kind t =
    ap (λ held. cond (passes kind (kind_of t)) held ((folded keep t).own ∷ [])) (kept_held t)
    ∙ ap (λ u. cond (passes kind (kind_of t)) (held_of t) (u ∷ [])) (kept_own t)

-- the operands of a node are what its inner parts hand up: themselves, or what they hold
pub operands-inner : (t : Tree) → operands_of t ≡ flat_map (operands_from (kind_of t)) (inner_parts t)
operands-inner t =
    standing_in-inner keep (kind_of t) (parts_of t)
    ∙ flat_map-same (λ u. handed (kind_of t) (u, folded keep u)) (operands_from (kind_of t)) (handed-kept (kind_of t)) (inner_parts t)

-- what holds of all that comes to parts

abbrev Both : {A : Type 0} → (A → Type 0) → Tree × Folded A → Type 0
Both P part = P part.1.own × All P part.1.held

all_cond : {A : Type 0} (P : A → Type 0) (b : Bool) (xs ys : List A) → All P xs → All P ys → All P (cond b xs ys)
all_cond P true xs ys first second = first
all_cond P false xs ys first second = second

all_handed : {A : Type 0} (P : A → Type 0) (kind : NodeKind) (part : Tree × Folded A) → Both P part → All P (handed kind part)
all_handed P kind part both =
    all_cond P (passes kind (kind_of part.0)) part.1.held (part.1.own ∷ []) both.1 (All-cons P part.1.own [] both.0 (All-nil P))

all_standing : {A : Type 0} (P : A → Type 0) (kind : NodeKind) (parts : List (Tree × Folded A)) → All (Both P) parts → All P (standing_in kind parts)
all_standing {A} P kind parts all =
    let tree : Tree × Folded A → Tree = λ part. part.0 in
    let inner = inner_by tree (inner_of kind) parts in
    all_flat_map P (handed kind) inner (All-weaker (Both P) (λ part. All P (handed kind part)) (all_handed P kind) inner (all_inner tree (Both P) (inner_of kind) parts all))

all_own : {A : Type 0} (P : A → Type 0) (parts : List (Tree × Folded A)) → All (Both P) parts → All P (map (λ part. part.1.own) parts)
all_own {A} P parts all =
    All-map P (λ (part : Tree × Folded A). part.1.own) parts (All-weaker (Both P) (λ part. P part.1.own) (λ part both. both.0) parts all)

all_held : {A : Type 0} (P : A → Type 0) (kind : NodeKind) (parts : List (Tree × Folded A)) → All (Both P) parts → All P (held_in kind parts)
all_held P ArrowExpr parts all = all_own P parts all
all_held P ChanType parts all = all_own P parts all
all_held P kind parts all = all_standing P kind parts all

-- an operand has fewer nodes

abbrev Within : ℕ → Tree → Type 0
Within n u = node_count u ≤ n

more_within : (n m : ℕ) → n ≤ m → (us : List Tree) → All (Within n) us → All (Within m) us
more_within n m le us all = All-weaker (Within n) (Within m) (λ u within. omega (arith, le, within)) us all

mutual
  held_within : (t : Tree) → All (Within (node_count t)) (folded keep t).held
  held_within (branch id from to kind text parts) =
      let n = node_count_of_all parts in
      let held = held_in kind (folded_each keep parts) in
      more_within n (1 + n) (omega arith) held (all_held (Within n) kind (folded_each keep parts) (each_within parts))

  each_within : (ts : Trees) → All (Both (Within (node_count_of_all ts))) (folded_each keep ts)
  each_within no_trees = All-nil (Both (Within 0))
  each_within (more_trees t ts) =
      let n = node_count t + node_count_of_all ts in
      let own : Within n (folded keep t).own = subst (Within n) (sym (kept_own t)) (omega arith) in
      let held : All (Within n) (folded keep t).held = more_within (node_count t) n (omega arith) (folded keep t).held (held_within t) in
      let wider : (part : Tree × Folded Tree) → Both (Within (node_count_of_all ts)) part → Both (Within n) part = λ part both. (omega (arith, both.0), more_within (node_count_of_all ts) n (omega arith) part.1.held both.1) in
      All-cons (Both (Within n)) (t, folded keep t) (folded_each keep ts) (own, held)
      (All-weaker (Both (Within (node_count_of_all ts))) (Both (Within n)) wider (folded_each keep ts) (each_within ts))

pub all_operands_smaller : (t : Tree) → All (λ u. node_count u < node_count t) (operands_of t)
all_operands_smaller (branch id from to kind text parts) =
    let n = node_count_of_all parts in
    let t = branch id from to kind text parts in
    All-weaker (Within n) (λ u. node_count u < 1 + n) (λ u within. omega (arith, within)) (operands_of t) (all_standing (Within n) kind (folded_each keep parts) (each_within parts))

pub operand_smaller : (t u : Tree) → Contains (operands_of t) u → node_count u < node_count t
operand_smaller t u within = All-contains (λ v. node_count v < node_count t) (operands_of t) u (all_operands_smaller t) within

-- the same of the node at a place of the list that `operands_of` answers
pub operand_node_smaller : (operands : List (Bor Node)) (t : Tree) (i : ℕ) (d : Bor Node) → trees_at operands ≡ operands_of t → i < length operands → node_count (tree_of (get_or operands i d).now) < node_count t
operand_node_smaller operands t i d same lt =
    let Smaller : Tree → Type 0 = λ u. node_count u < node_count t in
    let all : All Smaller (trees_at operands) = subst (All Smaller) (sym same) (all_operands_smaller t) in
    let long : i < length (trees_at operands) = omega (arith, length-map {A = Bor Node} {B = Tree}) in
    subst Smaller (get_or-map (λ (node : Bor Node). tree_of node.now) operands i d (tree_of d.now) lt) (All-get_or Smaller (trees_at operands) i (tree_of d.now) long all)

-- the same of the operand of a turn of a loop over that list
pub operand_part_smaller : (items operands : List (Bor Node)) (t : Tree) (i : ℕ) (operand : Bor Node) → items ≡ operands → trees_at operands ≡ operands_of t → i < length items → operand ≡ get_or items i operand → node_count (tree_of operand.now) < node_count t
operand_part_smaller items operands t i operand same is_operands lt is =
    let smaller = operand_node_smaller items t i operand (ap trees_at same ∙ is_operands) lt in
    let count : node_count (tree_of operand.now) ≡ node_count (tree_of (get_or items i operand).now) = ap (λ (node : Bor Node). node_count (tree_of node.now)) is in
    omega (arith, smaller, count)

-- all expressions are nodes

abbrev AreIn : Tree → List Tree → Type 0
AreIn t nodes = All (Contains (nodes_in t)) nodes

-- of what a walk over a node gives: what comes to it, and what it holds, are nodes in it
abbrev AreWithin : Tree → Type 0
AreWithin t = AreIn t (folded with_all t).own × All (AreIn t) (folded with_all t).held

all_both : {X : Type 0} (P Q : X → Type 0) (xs : List X) → All P xs → All Q xs → All (λ x. P x × Q x) xs
all_both P Q xs first second = λ k d lt. (first k d lt, second k d lt)

all_joined : {X Y : Type 0} (f : X → List Y) (xs : List X) → All (λ x. All (Contains (flat_map f xs)) (f x)) xs
all_joined f [] = All-nil (λ x. All (Contains []) (f x))
all_joined f (x ∷ xs) =
    let rest = flat_map f xs in
    All-cons (λ y. All (Contains (f x ++ rest)) (f y)) x xs
    (All-weaker (Contains (f x)) (Contains (f x ++ rest)) (Contains-append_left (f x) rest) (f x) (All-contains_itself (f x)))
    (All-weaker (λ y. All (Contains rest) (f y)) (λ y. All (Contains (f x ++ rest)) (f y)) (λ y all. All-weaker (Contains rest) (Contains (f x ++ rest)) (Contains-append_right (f x) rest) (f y) all) xs (all_joined f xs))

in_itself : (t : Tree) → Contains (nodes_in t) t
in_itself t =
    subst (λ nodes. Contains nodes t) (sym (nodes_in-inner t)) (Contains-append_left (t ∷ []) (flat_map nodes_in (inner_parts t)) t (Contains-push [] t))

inner_in : (t : Tree) → All (λ u. AreIn t (nodes_in u)) (inner_parts t)
inner_in t =
    let rest = flat_map nodes_in (inner_parts t) in
    let behind : (v : Tree) → Contains rest v → Contains (nodes_in t) v = λ v within. subst (λ nodes. Contains nodes v) (sym (nodes_in-inner t)) (Contains-append_right (t ∷ []) rest v within) in
    All-weaker (λ u. All (Contains rest) (nodes_in u)) (λ u. AreIn t (nodes_in u)) (λ u all. All-weaker (Contains rest) (Contains (nodes_in t)) behind (nodes_in u) all) (inner_parts t) (all_joined nodes_in (inner_parts t))

wider : (t u : Tree) → AreIn t (nodes_in u) → (nodes : List Tree) → AreIn u nodes → AreIn t nodes
wider t u inside nodes all =
    All-weaker (Contains (nodes_in u)) (Contains (nodes_in t)) (λ v within. All-contains (Contains (nodes_in t)) (nodes_in u) v inside within) nodes all

both_wider : (t u : Tree) → AreIn t (nodes_in u) × AreWithin u → Both (AreIn t) (u, folded with_all u)
both_wider t u both =
    let found = folded with_all u in
    (wider t u both.0 found.own both.1.0, All-weaker (AreIn u) (AreIn t) (wider t u both.0) found.held both.1.1)

all_standing_inner : {A : Type 0} (own : Tree → List A → A) (P : A → Type 0) (kind : NodeKind) (ts : Trees) → All (λ u. Both P (u, folded own u)) (inner_by (λ u. u) (inner_of kind) (list_of ts)) → All P (standing_in kind (folded_each own ts))
all_standing_inner own P kind ts all =
    let inner = inner_by (λ (u : Tree). u) (inner_of kind) (list_of ts) in
    subst (All P) (sym (standing_in-inner own kind ts)) (all_flat_map P (λ u. handed kind (u, folded own u)) inner
    (All-weaker (λ u. Both P (u, folded own u)) (λ u. All P (handed kind (u, folded own u))) (λ u both. all_handed P kind (u, folded own u) both) inner all))

all_own_inner : {A : Type 0} (own : Tree → List A → A) (P : A → Type 0) (ts : Trees) → All (λ u. Both P (u, folded own u)) (list_of ts) → All P (map (λ part. part.1.own) (folded_each own ts))
all_own_inner {A} own P ts all =
    let with_found : Tree → Tree × Folded A = λ u. (u, folded own u) in
    all_own P (folded_each own ts) (subst (All (Both P)) (sym (folded_each-map own ts)) (All-map (Both P) with_found (list_of ts) all))

all_held_inner : {A : Type 0} (own : Tree → List A → A) (P : A → Type 0) (kind : NodeKind) (ts : Trees) → All (λ u. Both P (u, folded own u)) (inner_by (λ u. u) (inner_of kind) (list_of ts)) → All P (held_in kind (folded_each own ts))
all_held_inner own P ArrowExpr ts all = all_own_inner own P ts all
all_held_inner own P ChanType ts all = all_own_inner own P ts all
all_held_inner own P kind ts all = all_standing_inner own P kind ts all

are_within_by_parts : (t : Tree) → All AreWithin (list_of (parts_of t)) → AreWithin t
are_within_by_parts (branch id from to kind text parts) all =
    let t = branch id from to kind text parts in
    let inner = all_inner (λ u. u) AreWithin (inner_of kind) (list_of parts) all in
    let each = All-weaker (λ u. AreIn t (nodes_in u) × AreWithin u) (λ u. Both (AreIn t) (u, folded with_all u)) (both_wider t) (inner_parts t) (all_both (λ u. AreIn t (nodes_in u)) AreWithin (inner_parts t) (inner_in t) inner) in
    let standing = standing_in kind (folded_each with_all parts) in
    let behind = all_flat_map (Contains (nodes_in t)) (λ nodes. nodes) standing (all_standing_inner with_all (AreIn t) kind parts each) in
    (All-cons (Contains (nodes_in t)) t (flat_map (λ nodes. nodes) standing) (in_itself t) behind, all_held_inner with_all (AreIn t) kind parts each)

mutual
  are_within : (t : Tree) → AreWithin t
  are_within (branch id from to kind text parts) = are_within_by_parts (branch id from to kind text parts) (all_are_within parts)

  all_are_within : (ts : Trees) → All AreWithin (list_of ts)
  all_are_within no_trees = All-nil AreWithin
  all_are_within (more_trees t ts) = All-cons AreWithin t (list_of ts) (are_within t) (all_are_within ts)

pub expressions_within : (t u : Tree) → Contains (expressions_in t) u → Contains (nodes_in t) u
expressions_within t u within = All-contains (Contains (nodes_in t)) (expressions_in t) u (are_within t).0 within

-- what holds of a node where it holds of its operands, holds of all
pub by_operands : (P : Tree → Type 0) → ((t : Tree) → ((u : Tree) → Contains (operands_of t) u → P u) → P t) → (t : Tree) → P t
by_operands P step t = below (node_count t + 1) t (omega arith)
  where
    below : (n : ℕ) (t : Tree) → node_count t < n → P t
    below zero t lt = absurd (omega (arith, lt))
    below (suc n) t lt = step t (λ u h. below n u (let smaller = operand_smaller t u h in omega (arith, smaller, lt)))
