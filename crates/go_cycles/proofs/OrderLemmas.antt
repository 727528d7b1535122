-- The vertices that an order of a graph leaves out are those from which edges lead on without an end.
use Rattle.std.proofs.Common.{◌≡◌, ℕ, zero, suc, ◌++◌, ◌<◌, ◌≤◌, Bool, true, false, ◌⊎◌, inl, inr, List, [], ◌∷◌, Contains, length, get_or, take, refl, sym, ap, ◌∙◌, subst, ⊎_elim, arith}
use Rattle.std.specs.Prelude.{◌↔◌, slice_set, replicate}
use Rattle.std.proofs.lemmas.Bool.{cases_eq, true≢false}
use Rattle.std.proofs.lemmas.List.{get_or_default, get_or-take, length-take-le, take_all}
use Rattle.std.proofs.lemmas.List.Elements.{Contains-append_left, Contains-push, Contains-push_cases}
use Rattle.go_graph.specs.Graph.{Graph, HasEdge, IsGraph, is_marked, row_at}
use Rattle.go_graph.specs.Order.{IsOrder}
use Rattle.go_graph.proofs.MarkLemmas.{marked_within}
use Rattle.go_graph.proofs.PlaceLemmas.{at_set, at_set_other, edge_within}
use Rattle.go_graph.proofs.TimesLemmas.{contains_or_not}
use Rattle.go_module.proofs.MemberLemmas.{cons_cases, contains_head, contains_none, contains_tail}
use Rattle.go_cycles.specs.Leading.{GoesOn, goes, stays}

-- what stands in a front stands in a longer one
longer_front : (k m : ℕ) (xs : List ℕ) (x : ℕ) → k ≤ m → Contains (take k xs) x → Contains (take m xs) x
longer_front zero m xs x le h = absurd (contains_none x h)
longer_front (suc k) m [] x le h = absurd (contains_none x h)
longer_front (suc k) zero (y ∷ ys) x le h = absurd (omega (arith, le))
longer_front (suc k) (suc m) (y ∷ ys) x le h = by_cases (cons_cases y (take k ys) x h) (longer_front k m ys x (omega (arith, le)))
  where
    by_cases : (y ≡ x) ⊎ Contains (take k ys) x → (Contains (take k ys) x → Contains (take m ys) x) → Contains (y ∷ take m ys) x
    by_cases (inl here) later = contains_head y (take m ys) x here
    by_cases (inr there) later = contains_tail y (take m ys) x (later there)

-- where an element of a front stands in the list
front_place : (n : ℕ) (xs : List ℕ) (x : ℕ) → n ≤ length xs → Contains (take n xs) x → (k : ℕ) × (k < n) × (get_or xs k 0 ≡ x)
front_place n xs x le h =
    let lt : h.0 < n = (let within = h.1 in omega (arith, within, length-take-le n xs le)) in
    (h.0, lt, sym (get_or-take n xs h.0 0 lt) ∙ get_or_default (take n xs) h.0 0 x h.1 ∙ h.2)

-- all numbers of a list stand in another, or one does not
all_in : (order row : List ℕ) → ((b : ℕ) → Contains row b → Contains order b) ⊎ ((b : ℕ) × Contains row b × (Contains order b → ⊥))
all_in order [] = inl (λ b h. absurd (contains_none b h))
all_in order (a ∷ row) = by_either (contains_or_not order a) (all_in order row)
  where
    by_either : Contains order a ⊎ (Contains order a → ⊥) → ((b : ℕ) → Contains row b → Contains order b) ⊎ ((b : ℕ) × Contains row b × (Contains order b → ⊥))
        → ((b : ℕ) → Contains (a ∷ row) b → Contains order b) ⊎ ((b : ℕ) × Contains (a ∷ row) b × (Contains order b → ⊥))
    by_either (inr out) rest = inr (a, contains_head a row a refl, out)
    by_either (inl here) (inr other) = inr (other.0, contains_tail a row other.0 other.1, other.2)
    by_either (inl here) (inl rest) = inl (λ b h. ⊎_elim (λ (same : a ≡ b). subst (Contains order) same here) (λ (there : Contains row b). rest b there) (cons_cases a row b h))

module _ (g : Graph) (order : List ℕ) (is : IsOrder g order) where
  -- from one of the first vertices of an order fewer edges lead on than these are
  ends : (m : ℕ) → m ≤ length order → (v : ℕ) → Contains (take m order) v → GoesOn (HasEdge g) m v → ⊥
  ends zero le v h on = contains_none v h
  ends (suc m) le v h (goes _ _ b leads on) =
      let at = front_place (suc m) order v le h in
      let lt = at.1 in
      let next = is.run at.0 (omega (arith, lt, le)) in
      let before = next.ready.has_ends b (subst (λ n. HasEdge g n b) (sym at.2) leads) in
      ends m (omega (arith, le)) b (longer_front at.0 m order b (omega (arith, lt)) before) on

  -- from a vertex that is left out an edge leads to another
  open_edge : (v : ℕ) → v < length g → (Contains order v → ⊥) → (b : ℕ) × HasEdge g v b × (Contains order b → ⊥)
  open_edge v lt none = by_either (all_in order (row_at g v))
    where
      by_either : ((b : ℕ) → Contains (row_at g v) b → Contains order b) ⊎ ((b : ℕ) × Contains (row_at g v) b × (Contains order b → ⊥)) → (b : ℕ) × HasEdge g v b × (Contains order b → ⊥)
      by_either (inl all) = absurd (is.whole v (record { is_vertex = lt; is_left = none; has_ends = all }))
      by_either (inr left) = left

  goes_on : IsGraph g → (n v : ℕ) → v < length g → (Contains order v → ⊥) → GoesOn (HasEdge g) n v
  goes_on graph zero v lt none = stays v
  goes_on graph (suc n) v lt none =
      let next = open_edge v lt none in
      goes n v next.0 next.1 (goes_on graph n next.0 (graph v next.0 next.1) next.2)

  first_edge : (v : ℕ) → GoesOn (HasEdge g) 1 v → v < length g
  first_edge v (goes _ _ b leads on) = edge_within g v b leads

  -- marks of the vertices that are left out
  pub left_out : (marks : List Bool) → IsGraph g → length marks ≡ length g
      → ((v : ℕ) → is_marked marks v ≡ true → Contains order v → ⊥) → ((v : ℕ) → v < length g → (Contains order v → ⊥) → is_marked marks v ≡ true)
      → (v : ℕ) → (is_marked marks v ≡ true) ↔ ((n : ℕ) → GoesOn (HasEdge g) n v)
  left_out marks graph long only all v = (
    λ e n. goes_on graph n v (let lt = marked_within marks v e in omega (arith, lt, long)) (only v e),
    λ on. all v (first_edge v (on 1))
        (λ h. ends (length order) (omega arith) v (subst (λ (xs : List ℕ). Contains xs v) (sym (take_all (length order) order (omega arith))) h) (on (length order))),
  )

-- all are marked at first
pub all_marked : (n v : ℕ) → v < n → is_marked (replicate n true) v ≡ true
all_marked zero v lt = absurd (omega (arith, lt))
all_marked (suc n) zero lt = refl
all_marked (suc n) (suc v) lt = all_marked n v (omega (arith, lt))

-- one more vertex that is not left out
module _ (marks : List Bool) (front : List ℕ) (w : ℕ) (lt : w < length marks) where
  other_mark : (v : ℕ) → (w ≡ v → ⊥) → is_marked (slice_set marks w false) v ≡ is_marked marks v
  other_mark v ne = at_set_other false marks w v false ne

  pub only_more : ((v : ℕ) → is_marked marks v ≡ true → Contains front v → ⊥)
      → (v : ℕ) → is_marked (slice_set marks w false) v ≡ true → Contains (front ++ w ∷ []) v → ⊥
  only_more only v e h =
      ⊎_elim
      (λ (here : w ≡ v). true≢false (sym e ∙ sym (ap (is_marked (slice_set marks w false)) here) ∙ at_set false marks w false lt))
      (λ (ne : w ≡ v → ⊥). ⊎_elim
      (λ (was : Contains front v). only v (sym (other_mark v ne) ∙ e) was)
      (λ (here : w ≡ v). ne here)
      (Contains-push_cases front w v h))
      (cases_eq w v)

  pub all_more : (n : ℕ) → ((v : ℕ) → v < n → (Contains front v → ⊥) → is_marked marks v ≡ true)
      → (v : ℕ) → v < n → (Contains (front ++ w ∷ []) v → ⊥) → is_marked (slice_set marks w false) v ≡ true
  all_more n all v below out =
      let ne : w ≡ v → ⊥ = λ here. out (subst (Contains (front ++ w ∷ [])) here (Contains-push front w)) in
      other_mark v ne ∙ all v below (λ h. out (Contains-append_left front (w ∷ []) v h))
