-- The parts of a node, by the list of its parts.
use Rattle.std.proofs.Common.{◌≡◌, ℕ, zero, suc, ◌+◌, ◌-◌, ◌≤◌, List, [], ◌∷◌, length, map, get_or, take, drop, refl, sym, ap, ◌∙◌, arith}
use Rattle.std.proofs.lemmas.List.{take_rest}
use Rattle.go_tree.specs.declared.node.Node.{Node}
use Rattle.go_tree.specs.Tree.{Tree, branch, no_trees, more_trees, trees_of, list_of, tree_of, parts_of}
use Rattle.go_tree.proofs.TreeLemmas.{list_of-trees_of}
use Rattle.go_module.specs.NodeParts.{all_but_first, first_part, last_of, last_part}

-- the first and the last part

pub first_part-none : (t : Tree) → trees_of [] ≡ parts_of t → first_part t ≡ t
first_part-none (branch id from to kind text no_trees) e = refl
first_part-none (branch id from to kind text (more_trees x xs)) e = cc

pub first_part-some : (t a : Tree) (ts : List Tree) → trees_of (a ∷ ts) ≡ parts_of t → first_part t ≡ a
first_part-some (branch id from to kind text no_trees) a ts e = cc
first_part-some (branch id from to kind text (more_trees x xs)) a ts e = cc

pub last_part-none : (t : Tree) → trees_of [] ≡ parts_of t → last_part t ≡ t
last_part-none (branch id from to kind text no_trees) e = refl
last_part-none (branch id from to kind text (more_trees x xs)) e = cc

last_of-at : (ns : List Node) (t : Tree) (n : Node) (i : ℕ) → i + 1 ≡ length ns → n ≡ get_or ns i n → last_of t (trees_of (map tree_of ns)) ≡ tree_of n
last_of-at [] t n i at e = absurd (omega arith)
last_of-at (m ∷ []) t n zero at e = ap tree_of (sym e)
last_of-at (m ∷ []) t n (suc i) at e = absurd (omega arith)
last_of-at (m ∷ (k ∷ ns)) t n zero at e = absurd (omega arith)
last_of-at (m ∷ (k ∷ ns)) t n (suc i) at e = last_of-at (k ∷ ns) (tree_of m) n i (omega arith) e

pub last_part-some : (ns : List Node) (t : Tree) (n : Node) → 1 ≤ length ns → n ≡ get_or ns (length ns - 1) n → trees_of (map tree_of ns) ≡ parts_of t → last_part t ≡ tree_of n
last_part-some ns (branch id from to kind text parts) n some e is =
    let at : (length ns - 1) + 1 ≡ length ns = omega arith in
    ap (last_of (branch id from to kind text parts)) (sym is) ∙ last_of-at ns (branch id from to kind text parts) n (length ns - 1) at e

pub ruleset part_lemmas = (first_part-none, first_part-some, last_part-none, last_part-some)

-- the parts as a list

pub parts_listed : (ns : List Node) (t : Tree) → trees_of (map tree_of ns) ≡ parts_of t → map tree_of ns ≡ list_of (parts_of t)
parts_listed ns t e = sym (list_of-trees_of (map tree_of ns)) ∙ ap list_of e

behind_first : (ns : List Node) → 1 ≤ length ns → map tree_of (take (length ns - 1) (drop 1 ns)) ≡ all_but_first (trees_of (map tree_of ns))
behind_first [] le = absurd (omega arith)
behind_first (n ∷ ns) le = ap (map tree_of) (take_rest (n ∷ ns) 1) ∙ sym (list_of-trees_of (map tree_of ns))

pub parts_behind_first : (ns : List Node) (t : Tree) → 1 ≤ length ns → trees_of (map tree_of ns) ≡ parts_of t → map tree_of (take (length ns - 1) (drop 1 ns)) ≡ all_but_first (parts_of t)
parts_behind_first ns t le e = behind_first ns le ∙ ap all_but_first e

pub no_parts_behind : (t : Tree) → trees_of [] ≡ parts_of t → all_but_first (parts_of t) ≡ []
no_parts_behind t e = sym (ap all_but_first e)

-- a node whose parts are three trees has three parts
three_long : (xs : List Node) (a b c : Tree) → trees_of (map tree_of xs) ≡ more_trees a (more_trees b (more_trees c no_trees)) → length xs ≡ 3
three_long [] a b c e = cc
three_long (x ∷ []) a b c e = cc
three_long (x ∷ (y ∷ [])) a b c e = cc
three_long (x ∷ (y ∷ (z ∷ []))) a b c e = refl
three_long (x ∷ (y ∷ (z ∷ (w ∷ xs)))) a b c e = cc

pub three_parts : (xs : List Node) (t a b c : Tree) → trees_of (map tree_of xs) ≡ parts_of t → parts_of t ≡ more_trees a (more_trees b (more_trees c no_trees)) → length xs ≡ 3
three_parts xs t a b c parts e = three_long xs a b c (parts ∙ e)

pub ruleset list_lemmas = (parts_listed, parts_behind_first, no_parts_behind, three_parts)
