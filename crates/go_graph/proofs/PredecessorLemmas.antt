-- Predecessors: one vertex put at the end of rows, and one more row of a graph.
use Rattle.std.proofs.Common.{◌≡◌, ℕ, zero, suc, ◌+◌, ◌<◌, List, [], ◌∷◌, ◌++◌, length, get_or, take, refl, sym, ap, ◌∙◌, subst, ⊎_elim, arith}
use Rattle.std.specs.Prelude.{◌==◌, Bool, true, false, cond, slice_set}
use Rattle.std.proofs.lemmas.Bool.{cases_eq, eq-eqb, ne_eqb}
use Rattle.std.proofs.lemmas.List.{take_more}
use Rattle.go_graph.specs.Graph.{Graph, row_at}
use Rattle.go_graph.specs.OpenEdges.{times, Adds, ArePredecessors}
use Rattle.go_graph.proofs.PlaceLemmas.{at_set, at_set_other}
use Rattle.go_graph.proofs.TimesLemmas.{times_both}

abbrev if_so : Bool → ℕ → ℕ
if_so b n = cond b n 0

-- one vertex at the end of one row

one_here : (e f : Bool) → e ≡ true → if_so f (0 + if_so e 1) ≡ 0 + if_so f 1
one_here e true is = ap (λ b. 0 + if_so b 1) is
one_here e false is = refl

none_here : (e f : Bool) → e ≡ false → if_so f (0 + if_so e 1) ≡ 0
none_here e true is = ap (λ b. 0 + if_so b 1) is
none_here e false is = refl

pub adds_one : (rows : List (List ℕ)) (q p : ℕ) (row : List ℕ) → q < length rows → row ≡ row_at rows q ++ p ∷ [] → Adds p (q ∷ []) rows (slice_set rows q row)
adds_one rows q p row lt is r s =
    ⊎_elim
    (λ (here : q ≡ s).
    let at : row_at (slice_set rows q row) s ≡ row_at rows s ++ p ∷ [] = subst (λ n. row_at (slice_set rows q row) n ≡ row_at rows n ++ p ∷ []) here (at_set [] rows q row lt ∙ is) in
    let both = ap (times r) at ∙ times_both r (row_at rows s) (p ∷ []) in
    let tests : if_so (p == r) (times s (q ∷ [])) ≡ times r (p ∷ []) = one_here (q == s) (p == r) (eq-eqb q s here) in
    omega (arith, both, tests))
    (λ (ne : q ≡ s → ⊥).
    let at : row_at (slice_set rows q row) s ≡ row_at rows s = at_set_other [] rows q s row ne in
    let tests : if_so (p == r) (times s (q ∷ [])) ≡ 0 = none_here (q == s) (p == r) (ne_eqb q s ne) in
    omega (arith, ap (times r) at, tests))
    (cases_eq q s)

-- one list behind another

if_sum : (b : Bool) (m n : ℕ) → if_so b (m + n) ≡ if_so b m + if_so b n
if_sum true m n = refl
if_sum false m n = refl

pub adds_more : (p : ℕ) (list : List ℕ) (k : ℕ) (a b c : List (List ℕ)) → k < length list → Adds p (take k list) a b → Adds p (get_or list k 0 ∷ []) b c → Adds p (take (k + 1) list) a c
adds_more p list k a b c lt f g r s =
    let x = get_or list k 0 in
    let more : times s (take (k + 1) list) ≡ times s (take k list) + times s (x ∷ []) = ap (times s) (take_more list k 0 lt) ∙ times_both s (take k list) (x ∷ []) in
    omega (arith, f r s, g r s, ap (if_so (p == r)) more, if_sum (p == r) (times s (take k list)) (times s (x ∷ [])))

-- one more row of the graph

same_test : (i p : ℕ) → (suc i == suc p) ≡ (i == p)
same_test i p =
    ⊎_elim
    (λ (e : i ≡ p). eq-eqb (suc i) (suc p) (ap suc e) ∙ sym (eq-eqb i p e))
    (λ (ne : i ≡ p → ⊥). ne_eqb (suc i) (suc p) (λ e. ne (omega (arith, e))) ∙ sym (ne_eqb i p ne))
    (cases_eq i p)

one_more_row : (g : Graph) (i p q : ℕ) → i < length g → times q (row_at (take (suc i) g) p) ≡ times q (row_at (take i g) p) + if_so (i == p) (times q (row_at g i))
one_more_row [] i p q lt = absurd (omega arith)
one_more_row (row ∷ g) zero zero q lt = omega arith
one_more_row (row ∷ g) zero (suc p) q lt = omega (arith, ap (λ b. if_so b (times q row)) (ne_eqb 0 (suc p) (λ e. omega arith)))
one_more_row (row ∷ g) (suc i) zero q lt = omega (arith, ap (λ b. if_so b (times q (row_at g i))) (ne_eqb (suc i) 0 (λ e. omega arith)))
one_more_row (row ∷ g) (suc i) (suc p) q lt = omega (arith, one_more_row g i p q (omega arith), ap (λ b. if_so b (times q (row_at g i))) (same_test i p))

predecessors_next : (g : Graph) (a b : List (List ℕ)) (i : ℕ) (row : List ℕ) → i < length g → row_at g i ≡ row → ArePredecessors (take i g) a → Adds i row a b → ArePredecessors (take (suc i) g) b
predecessors_next g a b i row lt at so_far adds p q =
    omega (arith, adds p q, so_far p q, one_more_row g i p q lt, ap (λ (xs : List ℕ). if_so (i == p) (times q xs)) at)

pub predecessors_more : (g : Graph) (a b : List (List ℕ)) (i : ℕ) (row : List ℕ) → i < length g → row_at g i ≡ row → ArePredecessors (take i g) a → Adds i row a b → ArePredecessors (take (i + 1) g) b
predecessors_more g a b i row lt at so_far adds =
    let n : suc i ≡ i + 1 = omega arith in
    subst (λ k. ArePredecessors (take k g) b) n (λ p q. predecessors_next g a b i row lt at so_far adds p q)
