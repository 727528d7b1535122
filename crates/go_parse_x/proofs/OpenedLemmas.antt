-- What a push and a pop do to the open nodes as the grammar sees them, and to their numbers.
use Rattle.std.proofs.Common.{Option, None, Some, IfSome, ◌≡◌, ℕ, suc, ◌≤◌, ◌+◌, List, [], ◌∷◌, ◌++◌, map, reverse, refl, sym, ap, ◌∙◌, subst, arith}
use Rattle.std.proofs.lemmas.List.{reverse-append, map_push, append_assoc, append-nil}
use Rattle.std.specs.Option.{option_to_list}
use Rattle.go_tree.specs.declared.node.Node.{Node, roll-Node}
use Rattle.go_tree.specs.declared.node.Node.TheOpen.{Node-F}
use Rattle.go_tree.specs.declared.node.Node.TheFolds.{fold-roll-Node}
use Rattle.go_tree.specs.Tree.{Tree, branch, more_trees, tree_step, tree_of, trees_of, start_of}
use Rattle.go_parse_x.specs.declared.opened.OpenNode.{OpenNode}
use Rattle.go_parse_x.specs.Tables.Opened.{unnumbered, all_unnumbered, numbers_in, numbers_among, numbers, Rises}

-- one more at the end of a list stands first in the list from its end
pub seen_push : {X Y : Type 0} (f : X → Y) (xs : List X) (x : X) → reverse (map f (xs ++ x ∷ [])) ≡ f x ∷ reverse (map f xs)
seen_push f xs x = rw (map_push, reverse-append) refl

-- one more at the front of a list stands last there
pub seen_first : {X Y : Type 0} (f : X → Y) (xs : List X) (x : X) → reverse (map f (x ∷ xs)) ≡ reverse (map f xs) ++ f x ∷ []
seen_first f xs x = reverse-append (f x ∷ []) (map f xs)

-- the tree of a node that is made
pub tree_of-roll : (n : Node-F Node) → tree_of (roll-Node n) ≡ branch n.id.0 n.start n.end n.kind n.text (trees_of (map tree_of n.parts.items))
tree_of-roll n = fold-roll-Node Tree tree_step n

pub all_unnumbered-map : (xs : List Node) → all_unnumbered (trees_of (map tree_of xs)) ≡ trees_of (map (λ n. unnumbered (tree_of n)) xs)
all_unnumbered-map [] = refl
all_unnumbered-map (x ∷ xs) = ap (λ ts. more_trees (unnumbered (tree_of x)) ts) (all_unnumbered-map xs)

pub start_of-unnumbered : (t : Tree) → start_of (unnumbered t) ≡ start_of t
start_of-unnumbered (branch id from to kind text parts) = refl

pub numbers_among-append : (xs ys : List Tree) → numbers_among (trees_of (xs ++ ys)) ≡ numbers_among (trees_of xs) ++ numbers_among (trees_of ys)
numbers_among-append [] ys = refl
numbers_among-append (x ∷ xs) ys = ap (λ ns. numbers_in x ++ ns) (numbers_among-append xs ys) ∙ sym (append_assoc (numbers_in x) (numbers_among (trees_of xs)) (numbers_among (trees_of ys)))

-- one more tree among the parts
pub numbers_among_push : (xs : List Node) (x : Node) → numbers_among (trees_of (map tree_of (xs ++ x ∷ []))) ≡ numbers_among (trees_of (map tree_of xs)) ++ numbers_in (tree_of x)
numbers_among_push xs x = rw (map_push) (numbers_among-append (map tree_of xs) (tree_of x ∷ []) ∙ ap (λ ns. numbers_among (trees_of (map tree_of xs)) ++ ns) (append-nil (numbers_in (tree_of x))))

pub numbers_append : (fs gs : List OpenNode) → numbers (fs ++ gs) ≡ numbers fs ++ numbers gs
numbers_append [] gs = refl
numbers_append (f ∷ fs) gs = ap (λ ns. numbers_among (trees_of (map tree_of f.parts.items)) ++ ns) (numbers_append fs gs) ∙ sym (append_assoc (numbers_among (trees_of (map tree_of f.parts.items))) (numbers fs) (numbers gs))

-- one more open node
pub numbers_push : (fs : List OpenNode) (f : OpenNode) → numbers (fs ++ f ∷ []) ≡ numbers fs ++ numbers_among (trees_of (map tree_of f.parts.items))
numbers_push fs f = numbers_append fs (f ∷ []) ∙ ap (λ ns. numbers fs ++ ns) (append-nil (numbers_among (trees_of (map tree_of f.parts.items))))

pub Rises-below : (low : ℕ) (ns : List ℕ) (next : ℕ) → Rises low ns next → low ≤ next
Rises-below low [] next h = h
Rises-below low (n ∷ ns) next h = let r = Rises-below (suc n) ns next h.1 in omega (arith, r, h.0)

-- they rise from a lower number on too
pub Rises-lower : (low high : ℕ) (ns : List ℕ) (next : ℕ) → low ≤ high → Rises high ns next → Rises low ns next
Rises-lower low high [] next le h = omega (arith, le, h)
Rises-lower low high (n ∷ ns) next le h = (omega (arith, le, h.0), h.1)

-- and below a higher one
pub Rises-higher : (low : ℕ) (ns : List ℕ) (next further : ℕ) → next ≤ further → Rises low ns next → Rises low ns further
Rises-higher low [] next further le h = omega (arith, le, h)
Rises-higher low (n ∷ ns) next further le h = (h.0, Rises-higher (suc n) ns next further le h.1)

pub Rises-append : (low middle next : ℕ) (xs ys : List ℕ) → Rises low xs middle → Rises middle ys next → Rises low (xs ++ ys) next
Rises-append low middle next [] ys h k = Rises-lower low middle ys next h k
Rises-append low middle next (x ∷ xs) ys h k = (h.0, Rises-append (suc x) middle next xs ys h.1 k)

-- what stands behind others rises too
pub Rises-tail : (low next : ℕ) (xs ys : List ℕ) → Rises low (xs ++ ys) next → Rises low ys next
Rises-tail low next [] ys h = h
Rises-tail low next (x ∷ xs) ys h = Rises-lower low (suc x) ys next (omega (arith, h.0)) (Rises-tail (suc x) next xs ys h.1)

-- one more number at the end
pub Rises-push : (low next : ℕ) (ns : List ℕ) → Rises low ns next → Rises low (ns ++ next ∷ []) (next + 1)
Rises-push low next ns h = Rises-append low next (next + 1) ns (next ∷ []) h (omega arith, omega arith)

-- the newest part of the innermost open node
pub newest_rises : (fs : List OpenNode) (f : OpenNode) (xs : List Node) (o : Option Node) → f.parts.items ≡ xs ++ option_to_list o → IfSome o (λ n. (low next : ℕ) → Rises low (numbers (fs ++ f ∷ [])) next → Rises low (numbers_in (tree_of n)) next)
newest_rises fs f xs None e = tt
newest_rises fs f xs (Some n) e = λ low next h.
    let parts : numbers_among (trees_of (map tree_of f.parts.items)) ≡ numbers_among (trees_of (map tree_of xs)) ++ numbers_in (tree_of n) = ap (λ ys. numbers_among (trees_of (map tree_of ys))) e ∙ numbers_among_push xs n in
    let whole : numbers (fs ++ f ∷ []) ≡ numbers fs ++ (numbers_among (trees_of (map tree_of xs)) ++ numbers_in (tree_of n)) = numbers_push fs f ∙ ap (λ ns. numbers fs ++ ns) parts in
    Rises-tail low next (numbers_among (trees_of (map tree_of xs))) (numbers_in (tree_of n)) (Rises-tail low next (numbers fs) (numbers_among (trees_of (map tree_of xs)) ++ numbers_in (tree_of n)) (subst (λ ns. Rises low ns next) whole h))
