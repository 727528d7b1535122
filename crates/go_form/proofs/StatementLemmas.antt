-- Lists of nodes by their length: what the rules on statements ask of the second and third of them.
use Rattle.std.proofs.Common.{◌≡◌, ◌<◌, ◌≤◌, true, false, List, [], ◌∷◌, length, map, refl, arith}
use Rattle.go_tree.specs.declared.node.Node.{Node}
use Rattle.go_tree.specs.Tree.{trees_of, tree_of}
use Rattle.go_form.specs.Families.Statements.{second_name_at, third_at, are_several}
use Rattle.go_form.specs.Families.SwitchStatements.{are_two_at_most}

pub no_second_name : (ns : List Node) → length ns < 2 → second_name_at (trees_of (map tree_of ns)) ≡ []
no_second_name [] lt = refl
no_second_name (x ∷ []) lt = refl
no_second_name (x ∷ (y ∷ ns)) lt = absurd (omega arith)

pub no_third : (ns : List Node) → length ns < 3 → third_at (trees_of (map tree_of ns)) ≡ []
no_third [] lt = refl
no_third (x ∷ []) lt = refl
no_third (x ∷ (y ∷ [])) lt = refl
no_third (x ∷ (y ∷ (z ∷ ns))) lt = absurd (omega arith)

pub two_at_most : (ns : List Node) → length ns ≤ 2 → are_two_at_most (trees_of (map tree_of ns)) ≡ true
two_at_most [] le = refl
two_at_most (x ∷ []) le = refl
two_at_most (x ∷ (y ∷ [])) le = refl
two_at_most (x ∷ (y ∷ (z ∷ ns))) le = absurd (omega arith)

pub three_or_more : (ns : List Node) → 2 < length ns → are_two_at_most (trees_of (map tree_of ns)) ≡ false
three_or_more [] lt = absurd (omega arith)
three_or_more (x ∷ []) lt = absurd (omega arith)
three_or_more (x ∷ (y ∷ [])) lt = absurd (omega arith)
three_or_more (x ∷ (y ∷ (z ∷ ns))) lt = refl

pub several : (ns : List Node) → 1 < length ns → are_several (trees_of (map tree_of ns)) ≡ true
several [] lt = absurd (omega arith)
several (x ∷ []) lt = absurd (omega arith)
several (x ∷ (y ∷ ns)) lt = refl

pub one_at_most : (ns : List Node) → length ns ≤ 1 → are_several (trees_of (map tree_of ns)) ≡ false
one_at_most [] le = refl
one_at_most (x ∷ []) le = refl
one_at_most (x ∷ (y ∷ ns)) le = absurd (omega arith)

pub ruleset at_most_two = (two_at_most, three_or_more)

pub ruleset more_than_one = (several, one_at_most)
