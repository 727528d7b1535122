-- How often a number stands in a list, and how many of a list do not stand in front.
use Rattle.std.proofs.Common.{◌≡◌, ℕ, zero, suc, ◌+◌, ◌<◌, Bool, true, false, cond, not, ◌||◌, ◌⊎◌, List, [], ◌∷◌, ◌++◌, length, get_or, refl, sym, ap, ◌∙◌, subst, inl, inr, ⊎_elim, arith}
use Rattle.std.specs.Prelude.{◌==◌, Contains}
use Rattle.std.specs.List.{list_any}
use Rattle.std.specs.Cmp.{unsigned_Decides}
use Rattle.std.proofs.lemmas.Bool.{true≢false, cases_Bool, eq-eqb, ne_eqb, eqb-true}
use Rattle.std.proofs.lemmas.List.Sums.{sum_by-append, sum_by-cons}
use Rattle.std.proofs.lemmas.List.Folds.{list_any-append}
use Rattle.std.proofs.lemmas.Map.Made.{is_member-Decides}
use Rattle.go_graph.specs.OpenEdges.{times, left_of}

abbrev one_if : Bool → ℕ
one_if b = cond b 1 0

abbrev one_unless : Bool → ℕ
one_unless b = cond (not b) 1 0

-- what stands at the head stands in the list, and so does what stands in the rest
pub at_head : (x : ℕ) (xs : List ℕ) → Contains (x ∷ xs) x
at_head x xs = (0, omega arith, refl)

in_rest : (x y : ℕ) (xs : List ℕ) → Contains xs y → Contains (x ∷ xs) y
in_rest x y xs h = (suc h.0, omega (arith, h.1), h.2)

head_or_rest_at : (x y : ℕ) (xs : List ℕ) (k : ℕ) → k < length (x ∷ xs) → get_or (x ∷ xs) k y ≡ y → (x ≡ y) ⊎ Contains xs y
head_or_rest_at x y xs zero lt is = inl is
head_or_rest_at x y xs (suc k) lt is = inr (k, omega arith, is)

head_or_rest : (x y : ℕ) (xs : List ℕ) → Contains (x ∷ xs) y → (x ≡ y) ⊎ Contains xs y
head_or_rest x y xs h = head_or_rest_at x y xs h.0 h.1 h.2

pub in_none : (x : ℕ) → Contains [] x → ⊥
in_none x h = omega (arith, h.1)

-- the test of a list decides whether it contains the number
has_true : (front : List ℕ) (q : ℕ) → list_any (λ r. q == r) front ≡ true → Contains front q
has_true front q = (is_member-Decides unsigned_Decides front q).0

has_false : (front : List ℕ) (q : ℕ) → (Contains front q → ⊥) → list_any (λ r. q == r) front ≡ false
has_false front q none =
    ⊎_elim (λ (there : list_any (λ r. q == r) front ≡ true). absurd (none (has_true front q there))) (λ (not_in : list_any (λ r. q == r) front ≡ false). not_in) (cases_Bool (list_any (λ r. q == r) front))

true_has : (front : List ℕ) (q : ℕ) → Contains front q → list_any (λ r. q == r) front ≡ true
true_has front q = (is_member-Decides unsigned_Decides front q).1

pub contains_or_not : (front : List ℕ) (q : ℕ) → Contains front q ⊎ (Contains front q → ⊥)
contains_or_not front q =
    ⊎_elim
    (λ (there : list_any (λ r. q == r) front ≡ true). inl (has_true front q there))
    (λ (not_in : list_any (λ r. q == r) front ≡ false). inr (λ h. true≢false (sym (true_has front q h) ∙ not_in)))
    (cases_Bool (list_any (λ r. q == r) front))

-- times

times_cons : (x y : ℕ) (ys : List ℕ) → times x (y ∷ ys) ≡ cond (y == x) 1 0 + times x ys
times_cons x y ys = sum_by-cons (λ z. cond (z == x) 1 0) y ys

same_one : (x y : ℕ) → y ≡ x → one_if (y == x) ≡ one_if true
same_one x y e = ap one_if (eq-eqb y x e)

other_none : (x y : ℕ) → (y ≡ x → ⊥) → one_if (y == x) ≡ one_if false
other_none x y ne = ap one_if (ne_eqb y x ne)

pub times_in : (x : ℕ) (xs : List ℕ) → Contains xs x → 0 < times x xs
times_in x [] h = absurd (in_none x h)
times_in x (y ∷ ys) h =
    ⊎_elim
    (λ (here : y ≡ x). omega (arith, times_cons x y ys, same_one x y here))
    (λ (there : Contains ys x). omega (arith, times_cons x y ys, times_in x ys there))
    (head_or_rest y x ys h)

pub times_both : (x : ℕ) (xs ys : List ℕ) → times x (xs ++ ys) ≡ times x xs + times x ys
times_both x xs ys = sum_by-append (λ y. cond (y == x) 1 0) xs ys

-- how many of a list are left

left_cons : (front : List ℕ) (x : ℕ) (xs : List ℕ) → left_of front (x ∷ xs) ≡ cond (not (list_any (λ r. x == r) front)) 1 0 + left_of front xs
left_cons front x xs = sum_by-cons (λ z. cond (not (list_any (λ r. z == r) front)) 1 0) x xs

-- with none left, all of the list stand in front
pub none_left : (front xs : List ℕ) → left_of front xs ≡ 0 → (q : ℕ) → Contains xs q → Contains front q
none_left front [] e q h = absurd (in_none q h)
none_left front (x ∷ xs) e q h =
    ⊎_elim
    (λ (here : x ≡ q). ⊎_elim
    (λ (there : Contains front x). subst (λ n. Contains front n) here there)
    (λ (none : Contains front x → ⊥). absurd (omega (arith, e, left_cons front x xs, ap one_unless (has_false front x none))))
    (contains_or_not front x))
    (λ (there : Contains xs q). none_left front xs (omega (arith, e, left_cons front x xs)) q there)
    (head_or_rest x q xs h)

pub left_none : (front xs : List ℕ) → ((q : ℕ) → Contains xs q → Contains front q) → left_of front xs ≡ 0
left_none front [] all = refl
left_none front (x ∷ xs) all =
    let here = ap one_unless (true_has front x (all x (at_head x xs))) in
    let rest = left_none front xs (λ q h. all q (in_rest x q xs h)) in
    omega (arith, left_cons front x xs, here, rest)

-- before anything stands in front, all of the list are left
pub all_left : (xs : List ℕ) → left_of [] xs ≡ length xs
all_left [] = refl
all_left (x ∷ xs) = omega (arith, left_cons [] x xs, all_left xs)

-- one more in front
one_more_tests : (h e more : Bool) → more ≡ (h || (e || false)) → (e ≡ true → h ≡ false) → cond (not h) 1 0 ≡ cond (not more) 1 0 + cond e 1 0
one_more_tests true true more is apart = absurd (true≢false (apart refl))
one_more_tests true false more is apart = omega (arith, ap one_unless is)
one_more_tests false true more is apart = omega (arith, ap one_unless is)
one_more_tests false false more is apart = omega (arith, ap one_unless is)

one_more : (front : List ℕ) (p q : ℕ) → (Contains front p → ⊥) → cond (not (list_any (λ r. q == r) front)) 1 0 ≡ cond (not (list_any (λ r. q == r) (front ++ p ∷ []))) 1 0 + cond (q == p) 1 0
one_more front p q none =
    one_more_tests (list_any (λ r. q == r) front) (q == p) (list_any (λ r. q == r) (front ++ p ∷ []))
    (list_any-append (λ r. q == r) front (p ∷ []))
    (λ (same : (q == p) ≡ true). has_false front q (λ h. none (subst (λ n. Contains front n) (eqb-true q p same) h)))

pub left_push : (front : List ℕ) (p : ℕ) (xs : List ℕ) → (Contains front p → ⊥) → left_of front xs ≡ left_of (front ++ p ∷ []) xs + times p xs
left_push front p [] none = refl
left_push front p (x ∷ xs) none =
    omega (arith, left_cons front x xs, left_cons (front ++ p ∷ []) x xs, times_cons p x xs, one_more front p x none, left_push front p xs none)
