-- Unbuilt forms by the number of parts, and the sizes of parts.
use Rattle.std.proofs.Common.{◌≡◌, ◌+◌, ◌-◌, ◌≤◌, ℕ, true, false, List, [], ◌∷◌, ◌++◌, length, map, get_or, take, drop, refl, sym, ap, ◌∙◌, arith}
use Rattle.std.proofs.lemmas.List.{take_rest}
use Rattle.go_tree.specs.declared.node.Node.{Node}
use Rattle.go_tree.specs.Tree.{Tree, branch, Trees, no_trees, more_trees, kind_of, start_of, parts_of, tree_of, trees_of, node_count, node_count_of_all}
use Rattle.go_tree.proofs.TreeLemmas.{count-parts}
use Rattle.go_form.specs.declared.parts.Parts.TheVariants.{NotBuilt, NoParts, One, Two, Three, OneAndEach, NamesAndType}
use Rattle.go_form.specs.declared.role.Role.{Role}
use Rattle.go_form.specs.declared.role.Role.TheVariants.{ExpressionList, Identifier, Unbuilt}
use Rattle.go_form.specs.BuiltForms.{constant_parts, copied_parts, parts_as, variable_parts, with_type, with_type_and_values, with_values}
use Rattle.go_form.specs.BuiltTypes.{arrow_parts, one_or_two, received_parts}
use Rattle.go_form.specs.Unbuilt.{are_none, unbuilt_as, unbuilt_behind_name, unbuilt_each, unbuilt_parts}

abbrev IsNotOne : Trees → Type 0
IsNotOne ts = (a : Tree) → ts ≡ more_trees a no_trees → ⊥

abbrev IsNotTwo : Trees → Type 0
IsNotTwo ts = (a b : Tree) → ts ≡ more_trees a (more_trees b no_trees) → ⊥

abbrev IsNotThree : Trees → Type 0
IsNotThree ts = (a b c : Tree) → ts ≡ more_trees a (more_trees b (more_trees c no_trees)) → ⊥

-- what a node stands for says what its parts are
pub as_parts : (role : Role) (t : Tree) → unbuilt_as role t ≡ unbuilt_parts (parts_as role (kind_of t) (parts_of t)) (start_of t) (parts_of t)
as_parts role (branch id from to kind text parts) = refl

-- SIZES

pub one_count : (t a : Tree) → parts_of t ≡ more_trees a no_trees → node_count t ≡ 1 + node_count a
one_count t a e = omega (arith, count-parts t, ap node_count_of_all e)

pub two_count : (t a b : Tree) → parts_of t ≡ more_trees a (more_trees b no_trees) → node_count t ≡ 1 + (node_count a + node_count b)
two_count t a b e = omega (arith, count-parts t, ap node_count_of_all e)

pub three_count : (t a b c : Tree) → parts_of t ≡ more_trees a (more_trees b (more_trees c no_trees)) → node_count t ≡ 1 + (node_count a + (node_count b + node_count c))
three_count t a b c e = omega (arith, count-parts t, ap node_count_of_all e)

pub rest_count : (t a : Tree) (ts : Trees) → parts_of t ≡ more_trees a ts → node_count t ≡ 1 + (node_count a + node_count_of_all ts)
rest_count t a ts e = omega (arith, count-parts t, ap node_count_of_all e)

-- NO PARTS

pub some_parts : (t a : Tree) (ts : Trees) → parts_of t ≡ more_trees a ts → are_none (parts_of t) ≡ false
some_parts t a ts e = ap are_none e

pub none_parts : (t : Tree) → parts_of t ≡ no_trees → are_none (parts_of t) ≡ true
none_parts t e = ap are_none e

pub none_is : (n : ℕ) (ts : Trees) → are_none ts ≡ true → unbuilt_parts NoParts n ts ≡ []
none_is n no_trees e = refl
none_is n (more_trees a ts) e = cc

pub some_is : (n : ℕ) (ts : Trees) → are_none ts ≡ false → unbuilt_parts NoParts n ts ≡ n ∷ []
some_is n no_trees e = cc
some_is n (more_trees a ts) e = refl

pub ruleset none_lemmas = (some_parts, none_parts, none_is, some_is)

-- ONE PART

pub one_is : (r : Role) (n : ℕ) (t a : Tree) → parts_of t ≡ more_trees a no_trees → unbuilt_parts (One r) n (parts_of t) ≡ unbuilt_as r a
one_is r n t a e = ap (unbuilt_parts (One r) n) e

pub one_other : (r : Role) (n : ℕ) (ts : Trees) → IsNotOne ts → unbuilt_parts (One r) n ts ≡ n ∷ []
one_other r n no_trees one = refl
one_other r n (more_trees a no_trees) one = absurd (one a refl)
one_other r n (more_trees a (more_trees b ts)) one = refl

pub ruleset one_lemmas = (one_count, one_is, one_other)

pub arrow_one : (t a : Tree) → parts_of t ≡ more_trees a no_trees → arrow_parts (parts_of t) ≡ received_parts (kind_of a)
arrow_one t a e = ap arrow_parts e

pub arrow_other : (ts : Trees) → IsNotOne ts → arrow_parts ts ≡ NotBuilt
arrow_other no_trees one = refl
arrow_other (more_trees a no_trees) one = absurd (one a refl)
arrow_other (more_trees a (more_trees b ts)) one = refl

pub ruleset arrow_lemmas = (arrow_one, arrow_other)

-- TWO

pub two_is : (r s : Role) (n : ℕ) (t a b : Tree) → parts_of t ≡ more_trees a (more_trees b no_trees) → unbuilt_parts (Two r s) n (parts_of t) ≡ unbuilt_as r a ++ unbuilt_as s b
two_is r s n t a b e = ap (unbuilt_parts (Two r s) n) e

pub two_other : (r s : Role) (n : ℕ) (ts : Trees) → IsNotTwo ts → unbuilt_parts (Two r s) n ts ≡ n ∷ []
two_other r s n no_trees two = refl
two_other r s n (more_trees a no_trees) two = refl
two_other r s n (more_trees a (more_trees b no_trees)) two = absurd (two a b refl)
two_other r s n (more_trees a (more_trees b (more_trees c ts))) two = refl

pub ruleset two_lemmas = (two_count, two_is, two_other)

pub variable_two : (t a b : Tree) → parts_of t ≡ more_trees a (more_trees b no_trees) → variable_parts (parts_of t) ≡ with_type (kind_of b)
variable_two t a b e = ap variable_parts e

pub variable_other : (ts : Trees) → IsNotTwo ts → variable_parts ts ≡ NotBuilt
variable_other no_trees two = refl
variable_other (more_trees a no_trees) two = refl
variable_other (more_trees a (more_trees b no_trees)) two = absurd (two a b refl)
variable_other (more_trees a (more_trees b (more_trees c ts))) two = refl

pub ruleset variable_lemmas = (variable_two, variable_other)

pub copied_one : (t a : Tree) → parts_of t ≡ more_trees a no_trees → copied_parts (parts_of t) ≡ One ExpressionList
copied_one t a e = ap copied_parts e

pub copied_two : (t a b : Tree) → parts_of t ≡ more_trees a (more_trees b no_trees) → copied_parts (parts_of t) ≡ Two Unbuilt ExpressionList
copied_two t a b e = ap copied_parts e

pub copied_other : (ts : Trees) → IsNotOne ts → IsNotTwo ts → copied_parts ts ≡ NotBuilt
copied_other no_trees one two = refl
copied_other (more_trees a no_trees) one two = absurd (one a refl)
copied_other (more_trees a (more_trees b no_trees)) one two = absurd (two a b refl)
copied_other (more_trees a (more_trees b (more_trees c ts))) one two = refl

pub ruleset copied_lemmas = (copied_one, copied_two, copied_other)

-- ONE OR TWO

pub one_of_two : (r s : Role) (t a : Tree) → parts_of t ≡ more_trees a no_trees → one_or_two r s (parts_of t) ≡ One r
one_of_two r s t a e = ap (one_or_two r s) e

pub not_one : (r s : Role) (ts : Trees) → IsNotOne ts → one_or_two r s ts ≡ Two r s
not_one r s no_trees one = refl
not_one r s (more_trees a no_trees) one = absurd (one a refl)
not_one r s (more_trees a (more_trees b ts)) one = refl

pub ruleset one_or_two_lemmas = (one_of_two, not_one)

-- THREE

pub three_is : (r s u : Role) (n : ℕ) (t a b c : Tree) → parts_of t ≡ more_trees a (more_trees b (more_trees c no_trees)) → unbuilt_parts (Three r s u) n (parts_of t) ≡ unbuilt_as r a ++ (unbuilt_as s b ++ unbuilt_as u c)
three_is r s u n t a b c e = ap (unbuilt_parts (Three r s u) n) e

pub three_other : (r s u : Role) (n : ℕ) (ts : Trees) → IsNotThree ts → unbuilt_parts (Three r s u) n ts ≡ n ∷ []
three_other r s u n no_trees three = refl
three_other r s u n (more_trees a no_trees) three = refl
three_other r s u n (more_trees a (more_trees b no_trees)) three = refl
three_other r s u n (more_trees a (more_trees b (more_trees c no_trees))) three = absurd (three a b c refl)
three_other r s u n (more_trees a (more_trees b (more_trees c (more_trees d ts)))) three = refl

pub ruleset three_lemmas = (three_count, three_is, three_other)

pub constant_two : (t a b : Tree) → parts_of t ≡ more_trees a (more_trees b no_trees) → constant_parts (parts_of t) ≡ with_values (kind_of b)
constant_two t a b e = ap constant_parts e

pub constant_three : (t a b c : Tree) → parts_of t ≡ more_trees a (more_trees b (more_trees c no_trees)) → constant_parts (parts_of t) ≡ with_type_and_values (kind_of c)
constant_three t a b c e = ap constant_parts e

pub constant_other : (ts : Trees) → IsNotTwo ts → IsNotThree ts → constant_parts ts ≡ NotBuilt
constant_other no_trees two three = refl
constant_other (more_trees a no_trees) two three = refl
constant_other (more_trees a (more_trees b no_trees)) two three = absurd (two a b refl)
constant_other (more_trees a (more_trees b (more_trees c no_trees))) two three = absurd (three a b c refl)
constant_other (more_trees a (more_trees b (more_trees c (more_trees d ts)))) two three = refl

pub ruleset constant_lemmas = (constant_two, constant_three, constant_other)

-- ONE, AND ANY NUMBER BEHIND IT

pub rest_is : (ns : List Node) (t : Tree) (n : Node) → 1 ≤ length ns → n ≡ get_or ns 0 n → trees_of (map tree_of ns) ≡ parts_of t → parts_of t ≡ more_trees (tree_of n) (trees_of (map tree_of (take (length ns - 1) (drop 1 ns))))
rest_is [] t n le is e = absurd (omega arith)
rest_is (m ∷ ns) t n le is e =
    sym e ∙ (ap (λ (x : Node). more_trees (tree_of x) (trees_of (map tree_of ns))) (sym is) ∙ ap (λ (xs : List Node). more_trees (tree_of n) (trees_of (map tree_of xs))) (sym (take_rest (m ∷ ns) 1)))

pub ruleset rest_lemmas = (rest_is)

pub one_and_each_is : (r s : Role) (n : ℕ) (t a : Tree) (ts : Trees) → parts_of t ≡ more_trees a ts → unbuilt_parts (OneAndEach r s) n (parts_of t) ≡ unbuilt_as r a ++ unbuilt_each s ts
one_and_each_is r s n t a ts e = ap (unbuilt_parts (OneAndEach r s) n) e

pub one_and_each_none : (r s : Role) (n : ℕ) (t : Tree) → parts_of t ≡ no_trees → unbuilt_parts (OneAndEach r s) n (parts_of t) ≡ n ∷ []
one_and_each_none r s n t e = ap (unbuilt_parts (OneAndEach r s) n) e

pub ruleset one_and_each_lemmas = (rest_count, one_and_each_is, one_and_each_none)

pub names_is : (n : ℕ) (t a : Tree) (ts : Trees) → parts_of t ≡ more_trees a ts → unbuilt_parts NamesAndType n (parts_of t) ≡ unbuilt_as Identifier a ++ unbuilt_behind_name n ts
names_is n t a ts e = ap (unbuilt_parts NamesAndType n) e

pub names_none : (n : ℕ) (t : Tree) → parts_of t ≡ no_trees → unbuilt_parts NamesAndType n (parts_of t) ≡ n ∷ []
names_none n t e = ap (unbuilt_parts NamesAndType n) e

pub ruleset names_lemmas = (rest_count, names_is, names_none)
