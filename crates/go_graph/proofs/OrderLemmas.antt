-- Runs: one more vertex, what stands in a run, and the laws of the order.
use Rattle.std.proofs.Common.{◌≡◌, ℕ, zero, suc, ◌+◌, ◌<◌, ◌≤◌, List, [], ◌∷◌, ◌++◌, length, get_or, take, drop, refl, sym, ◌∙◌, subst, ⊎_elim, arith}
use Rattle.std.specs.Prelude.{Contains}
use Rattle.std.proofs.lemmas.Bool.{cases_eq}
use Rattle.std.proofs.lemmas.List.{take-append-le, take-append-drop, take_at, take_all, take_more, take_more_same, get_or_default, get_or_append_left, get_or_push, get_or-take, length_push, length-take-le}
use Rattle.std.proofs.lemmas.List.Elements.{Contains-append_left, Contains-get_or, Contains-push_cases}
use Rattle.go_graph.specs.Graph.{Graph, HasEdge}
use Rattle.go_graph.specs.Order.{IsNext, IsRun, IsOrder, Respects}
use Rattle.go_graph.proofs.TimesLemmas.{contains_or_not}

-- what stands in the front of a list stands in the list
pub in_front : (n : ℕ) (xs : List ℕ) (x : ℕ) → Contains (take n xs) x → Contains xs x
in_front n xs x h = subst (λ (ys : List ℕ). Contains ys x) (take-append-drop n xs) (Contains-append_left (take n xs) (drop n xs) x h)

-- the element at a place of a front
at_front : (n : ℕ) (xs : List ℕ) (k : ℕ) → k < n → n ≤ length xs → Contains (take n xs) (get_or xs k 0)
at_front n xs k lt le =
    subst (λ m. Contains (take n xs) m) (get_or-take n xs k 0 lt) (Contains-get_or (take n xs) k 0 (omega (arith, length-take-le n xs le, lt)))

-- where an element of a list stands
place_of : (xs : List ℕ) (x : ℕ) → Contains xs x → (k : ℕ) × (k < length xs) × (get_or xs k 0 ≡ x)
place_of xs x h = (h.0, h.1, get_or_default xs h.0 0 x h.1 ∙ h.2)

-- one more vertex
pub run_more : (g : Graph) (order : List ℕ) (p : ℕ) → IsRun g order → IsNext g order p → IsRun g (order ++ p ∷ [])
run_more g order p run next k lt =
    ⊎_elim
    (λ (here : k ≡ length order).
    let front = take_at order (p ∷ []) k (sym here) in
    let at = get_or_push order p 0 k (sym here) in
    subst (λ (xs : List ℕ). IsNext g xs (get_or (order ++ p ∷ []) k 0)) (sym front) (subst (λ n. IsNext g order n) (sym at) next))
    (λ (ne : k ≡ length order → ⊥).
    let below : k < length order = omega (arith, lt, length_push order p, ne) in
    let front = take-append-le k order (p ∷ []) (omega arith) in
    let at = get_or_append_left order (p ∷ []) 0 k below in
    subst (λ (xs : List ℕ). IsNext g xs (get_or (order ++ p ∷ []) k 0)) (sym front) (subst (λ n. IsNext g (take k order) n) (sym at) (run k below)))
    (cases_eq k (length order))

-- all that the edges of a vertex of a run lead to stands in it
pub closed : (g : Graph) (order : List ℕ) → IsRun g order → (p : ℕ) → Contains order p → (q : ℕ) → HasEdge g p q → Contains order q
closed g order run p h q has =
    let at = place_of order p h in
    in_front at.0 order q ((run at.0 at.1).ready.has_ends q (subst (λ n. HasEdge g n q) (sym at.2) has))

-- the laws

pub respects : (g : Graph) (order : List ℕ) → IsOrder g order → Respects g order
respects g order is = record {
  vertices = λ k lt. (is.run k lt).ready.is_vertex;
  once = λ i k below lt same. (is.run k lt).ready.is_left (subst (λ n. Contains (take k order) n) same (at_front k order i below (omega arith)));
  behind = λ k lt. (is.run k lt).ready.has_ends;
}

-- one front has one next vertex
one_next : (g : Graph) (front : List ℕ) (p q : ℕ) → IsNext g front p → IsNext g front q → p ≡ q
one_next g front p q a b = omega (arith, a.least q b.ready, b.least p a.ready)

same_fronts : (g : Graph) (a b : List ℕ) → IsOrder g a → IsOrder g b → (k : ℕ) → k ≤ length a → k ≤ length b → take k a ≡ take k b
same_fronts g a b x y zero la lb = refl
same_fronts g a b x y (suc k) la lb =
    let so_far = same_fronts g a b x y k (omega arith) (omega arith) in
    let ka : k < length a = omega arith in
    let kb : k < length b = omega arith in
    let other = subst (λ (xs : List ℕ). IsNext g xs (get_or b k 0)) (sym so_far) (y.run k kb) in
    let same = one_next g (take k a) (get_or a k 0) (get_or b k 0) (x.run k ka) other in
    let n : suc k ≡ k + 1 = omega arith in
    subst (λ m. take m a ≡ take m b) (sym n) (take_more_same a b k 0 ka kb so_far same)

-- none of two orders ends before the other
not_shorter : (g : Graph) (a b : List ℕ) → IsOrder g a → IsOrder g b → length a < length b → ⊥
not_shorter g a b x y lt =
    let front : take (length a) b ≡ a = sym (same_fronts g a b x y (length a) (omega arith) (omega arith)) ∙ take_all (length a) a (omega arith) in
    let next = subst (λ (xs : List ℕ). IsNext g xs (get_or b (length a) 0)) front (y.run (length a) lt) in
    x.whole (get_or b (length a) 0) next.ready

pub unique : (g : Graph) (a b : List ℕ) → IsOrder g a → IsOrder g b → a ≡ b
unique g a b x y =
    let same : length a ≡ length b = omega (arith, not_shorter g a b x y, not_shorter g b a y x) in
    sym (take_all (length a) a (omega arith)) ∙ same_fronts g a b x y (length a) (omega arith) (omega arith) ∙ take_all (length a) b (omega arith)

-- a vertex stands in an order if all that its edges lead to does
stands : (g : Graph) (order : List ℕ) (p : ℕ) → IsOrder g order → p < length g → ((q : ℕ) → HasEdge g p q → Contains order q) → Contains order p
stands g order p is lt all =
    ⊎_elim
    (λ (there : Contains order p). there)
    (λ (none : Contains order p → ⊥). absurd (is.whole p (record { is_vertex = lt; is_left = none; has_ends = all })))
    (contains_or_not order p)

each_stands : (g : Graph) (list order : List ℕ) → Respects g list → IsOrder g order → (n : ℕ) → n ≤ length list → (q : ℕ) → Contains (take n list) q → Contains order q
each_stands g list order full is zero le q h = absurd (omega (arith, h.1))
each_stands g list order full is (suc n) le q h =
    let lt : n < length list = omega arith in
    let so_far = each_stands g list order full is n (omega arith) in
    let m : suc n ≡ n + 1 = omega arith in
    let split = subst (λ k. take k list ≡ take n list ++ get_or list n 0 ∷ []) (sym m) (take_more list n 0 lt) in
    ⊎_elim
    (λ (before : Contains (take n list) q). so_far q before)
    (λ (here : get_or list n 0 ≡ q).
    subst (λ k. Contains order k) here (stands g order (get_or list n 0) is (full.vertices n lt) (λ r has. so_far r (full.behind n lt r has))))
    (Contains-push_cases (take n list) (get_or list n 0) q (subst (λ (xs : List ℕ). Contains xs q) split h))

pub has_all : (g : Graph) (list order : List ℕ) → Respects g list → ((p : ℕ) → p < length g → Contains list p) → IsOrder g order → (p : ℕ) → p < length g → Contains order p
has_all g list order full all is p lt =
    each_stands g list order full is (length list) (omega arith) p (subst (λ (xs : List ℕ). Contains xs p) (sym (take_all (length list) list (omega arith))) (all p lt))
