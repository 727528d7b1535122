-- What a file breaks by its form has one list.
use Rattle.std.proofs.Common.{◌≡◌, ℕ, zero, suc, ◌<◌, List, [], ◌∷◌, length, get_or, ⊎_elim, refl, sym, ap, subst, arith}
use Rattle.std.specs.List.{Contains}
use Rattle.std.proofs.lemmas.List.Elements.{Contains-append_left, Contains-append_right, Contains-append_cases}
use Rattle.go_base.specs.declared.rule.Broken.{Broken}
use Rattle.go_base.specs.declared.rule.Rule.{Rule}
use Rattle.go_tree.specs.Tree.{Tree, start_of}
use Rattle.go_module.specs.Broken.{broken_at, told}
use Rattle.go_form.specs.Rules.{build_constraint}
use Rattle.go_form.specs.BuildConstraints.{AreBuildConstraints}
use Rattle.go_form.specs.Whole.{broken_in_tree, broken_forms, AreBrokenForms}
use Rattle.go_module.proofs.OrderLemmas.{one_ascending}

-- a rule is told at each place of the list
has_at : (file : ℕ) (r : Rule) (xs : List ℕ) (n k : ℕ) → k < length xs → get_or xs k n ≡ n → Contains (told file r xs) (broken_at file n r)
has_at file r [] n k lt at = absurd (omega (arith, lt))
has_at file r (x ∷ xs) n zero lt at = (0, omega arith, ap (λ place. broken_at file place r) at)
has_at file r (x ∷ xs) n (suc k) lt at =
    let h = has_at file r xs n k (omega (arith, lt)) at in
    (suc h.0, (let l = h.1 in omega (arith, l)), h.2)

-- and nowhere else
only_at : (file : ℕ) (r : Rule) (xs : List ℕ) (b : Broken) (k : ℕ) → k < length (told file r xs) → get_or (told file r xs) k b ≡ b → (n : ℕ) × Contains xs n × (b ≡ broken_at file n r)
only_at file r [] b k lt at = absurd (omega (arith, lt))
only_at file r (x ∷ xs) b zero lt at = (x, (0, omega arith, refl), sym at)
only_at file r (x ∷ xs) b (suc k) lt at =
    let h = only_at file r xs b k (omega (arith, lt)) at in
    (h.0, (suc h.1.0, (let l = h.1.1 in omega (arith, l)), h.1.2), h.2)

-- lists with the same members tell the same
told_moved : (file : ℕ) (r : Rule) (xs ys : List ℕ) → ((n : ℕ) → Contains xs n → Contains ys n) → (b : Broken) → Contains (told file r xs) b → Contains (told file r ys) b
told_moved file r xs ys moved b h =
    let at = only_at file r xs b h.0 h.1 h.2 in
    let there = moved at.0 at.1 in
    subst (Contains (told file r ys)) (sym at.2) (has_at file r ys at.0 there.0 there.1 there.2)

forms_moved : (file : ℕ) (t : Tree) (xs ys : List ℕ) → ((n : ℕ) → Contains xs n → Contains ys n) → (b : Broken) → Contains (broken_forms file xs t) b → Contains (broken_forms file ys t) b
forms_moved file t xs ys moved b h = ⊎_elim
    (λ (e : Contains (told file build_constraint xs) b). Contains-append_left (told file build_constraint ys) (broken_in_tree file t) b (told_moved file build_constraint xs ys moved b e))
    (λ (e : Contains (broken_in_tree file t) b). Contains-append_right (told file build_constraint ys) (broken_in_tree file t) b e)
    (Contains-append_cases (told file build_constraint xs) (broken_in_tree file t) b h)

same_constraints : (bytes : List ℕ) (clause : ℕ) (xs ys : List ℕ) → AreBuildConstraints bytes clause xs → AreBuildConstraints bytes clause ys → (n : ℕ) → Contains xs n → Contains ys n
same_constraints bytes clause xs ys hx hy n h = (hy.same n).1 ((hx.same n).0 h)

listed_in : (file : ℕ) (bytes : List ℕ) (t : Tree) (a b : List Broken) (ha : AreBrokenForms file bytes t a) (hb : AreBrokenForms file bytes t b) → (z : Broken) → Contains a z → Contains b z
listed_in file bytes t a b ha hb z h =
    (hb.is_list.same z).1 (forms_moved file t ha.constraints hb.constraints (same_constraints bytes (start_of t) ha.constraints hb.constraints ha.are_constraints hb.are_constraints) z ((ha.is_list.same z).0 h))

pub one_list_of_forms : (file : ℕ) (bytes : List ℕ) (t : Tree) (a b : List Broken) → AreBrokenForms file bytes t a → AreBrokenForms file bytes t b → a ≡ b
one_list_of_forms file bytes t a b ha hb =
    one_ascending a b ha.is_list.ascending hb.is_list.ascending (listed_in file bytes t a b ha hb) (listed_in file bytes t b a hb ha)
