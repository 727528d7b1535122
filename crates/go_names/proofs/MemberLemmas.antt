-- Names within types: which they are.
use Rattle.std.proofs.Common.{◌≡◌, ℕ, suc, ◌-◌, ◌<◌, ◌||◌, List, [], ◌∷◌, ◌++◌, length, map, take, Bor, refl, sym, ap, ◌∙◌, arith, length-append}
use Rattle.std.proofs.lemmas.List.{length-map, take-map}
use Rattle.std.specs.List.{list_any}
use Rattle.go_tree.specs.declared.node.Node.{Node}
use Rattle.go_tree.specs.Tree.{Tree, kind_of, tree_of}
use Rattle.go_module.specs.Names.Inner.{is_named_param}
use Rattle.go_module.specs.Names.Rules.MemberRules.{all_but_last}
use Rattle.go_names.specs.Views.{trees_at}

-- whether some parameter has a name and a type, by its tree
pub any_named : (ns : List Node) → list_any (λ n. is_named_param (kind_of (tree_of n))) ns ≡ list_any (λ t. is_named_param (kind_of t)) (map tree_of ns)
any_named [] = refl
any_named (n ∷ ns) = ap (λ rest. is_named_param (kind_of (tree_of n)) || rest) (any_named ns)

-- all but the last of what is pushed

but_last-take : (xs : List Tree) → take (length xs - 1) xs ≡ all_but_last xs
but_last-take [] = refl
but_last-take (x ∷ []) = refl
but_last-take (x ∷ (y ∷ xs)) =
    let long : length (x ∷ (y ∷ xs)) - 1 ≡ suc (length (y ∷ xs) - 1) = omega arith in
    ap (λ (n : ℕ). take n (x ∷ (y ∷ xs))) long ∙ ap (λ rest. x ∷ rest) (but_last-take (y ∷ xs))

but_last-cons : (x : Tree) (xs : List Tree) → 0 < length xs → all_but_last (x ∷ xs) ≡ x ∷ all_but_last xs
but_last-cons x [] some = absurd (omega arith)
but_last-cons x (y ∷ xs) some = refl

but_last-append : (old xs : List Tree) → 0 < length xs → all_but_last (old ++ xs) ≡ old ++ all_but_last xs
but_last-append [] xs some = refl
but_last-append (x ∷ old) xs some =
    but_last-cons x (old ++ xs) (omega (arith, some, length-append old xs)) ∙ ap (λ rest. x ∷ rest) (but_last-append old xs some)

-- where something was pushed, the last of it leaves
pub last_left : (n : ℕ) (old pushed left : List (Bor Node)) (xs : List Tree) → n ≡ length pushed → trees_at pushed ≡ trees_at old ++ xs → left ≡ take (n - 1) pushed → length old < length pushed → trees_at left ≡ trees_at old ++ all_but_last xs
last_left n old pushed left xs len all rest more =
    let tree : Bor Node → Tree = λ node. tree_of node.now in
    let before = length-map old tree in
    let long = length-map pushed tree in
    let some : 0 < length xs = omega (arith, more, before, long, ap length all, length-append (trees_at old) xs) in
    ap trees_at rest
    ∙ sym (take-map tree (n - 1) pushed)
    ∙ ap (λ (k : ℕ). take (k - 1) (trees_at pushed)) (len ∙ sym long)
    ∙ but_last-take (trees_at pushed)
    ∙ ap all_but_last all
    ∙ but_last-append (trees_at old) xs some
