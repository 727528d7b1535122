-- Open edges: closing some, and the order under way at its begin, its step and its end.
use Rattle.std.proofs.Common.{◌≡◌, ℕ, zero, suc, ◌+◌, ◌<◌, ◌≤◌, List, [], ◌∷◌, ◌++◌, length, get_or, take, map, refl, sym, ap, ◌∙◌, subst, inl, inr, ⊎_elim, arith}
use Rattle.std.specs.Prelude.{◌↔◌, ◌==◌, cond, true, false, Contains}
use Rattle.std.specs.BTreeMap.{is_at}
use Rattle.std.specs.BTreeSet.{BTreeSet, contains, Updates}
use Rattle.std.specs.Ordering.{nat_cmp}
use Rattle.std.proofs.lemmas.Bool.{false≢true, cases_eq, cases_lt}
use Rattle.std.proofs.lemmas.Bool.Decides.{nat_tests}
use Rattle.std.proofs.lemmas.Cmp.{nat_cmp_total}
use Rattle.std.proofs.lemmas.Map.Lookups.{exact_unsigned}
use Rattle.std.proofs.lemmas.Map.Views.{btree_set_contains_iff}
use Rattle.std.proofs.lemmas.List.{take_more, get_or_past, length-map}
use Rattle.std.proofs.lemmas.List.Sums.{sum_by-take-le}
use Rattle.std.proofs.lemmas.List.Elements.{Contains-append_left, Contains-push, Contains-push_cases}
use Rattle.go_graph.specs.Graph.{Graph, row_at}
use Rattle.go_graph.specs.Order.{IsReady, IsOrder}
use Rattle.go_graph.specs.OpenEdges.{times, left_of, ArePredecessors, IsIn, Closes, IsUnderWay}
use Rattle.go_graph.proofs.TimesLemmas.{times_both, in_none, times_in, at_head, none_left, left_none, all_left, left_push}
use Rattle.go_graph.proofs.OrderLemmas.{run_more, closed}

-- what is positive at a place stands within the list
pub within : (xs : List ℕ) (k : ℕ) → 0 < get_or xs k 0 → k < length xs
within xs k pos =
    ⊎_elim
    (λ (lt : k < length xs). lt)
    (λ (ge : length xs ≤ k). absurd (omega (arith, pos, get_or_past xs k 0 ge)))
    (cases_lt k (length xs))

-- what is closed next is open
pub is_open : (list : List ℕ) (k : ℕ) (a b : List ℕ) (r s : BTreeSet ℕ) → k < length list → ((p : ℕ) → times p list ≤ get_or a p 0) → Closes (take k list) a b r s → 0 < get_or b (get_or list k 0) 0
is_open list k a b r s lt all f =
    let x = get_or list k 0 in
    let here : 0 < times x (x ∷ []) = times_in x (x ∷ []) (at_head x []) in
    let more : times x (take (k + 1) list) ≡ times x (take k list) + times x (x ∷ []) = ap (times x) (take_more list k 0 lt) ∙ times_both x (take k list) (x ∷ []) in
    let le : times x (take (k + 1) list) ≤ times x list = sum_by-take-le (λ y. cond (y == x) 1 0) list (k + 1) in
    omega (arith, here, more, le, all x, f.counts x)

-- the begin

start_count : (g : Graph) (p : ℕ) → get_or (map (λ row. length row) g) p 0 ≡ length (row_at g p)
start_count [] p = refl
start_count (row ∷ g) zero = refl
start_count (row ∷ g) (suc p) = start_count g p

pub begins : (g : Graph) (counts : List ℕ) (ready : BTreeSet ℕ) (order : List ℕ) → order ≡ [] → counts ≡ map (λ row. length row) g → ((p : ℕ) → IsIn ready p ↔ ((p < length counts) × (get_or counts p 0 ≡ 0))) → IsUnderWay g counts ready order
begins g counts ready order none is set =
    let count : (p : ℕ) → get_or counts p 0 ≡ left_of [] (row_at g p) = λ p. ap (λ (xs : List ℕ). get_or xs p 0) is ∙ start_count g p ∙ sym (all_left (row_at g p)) in
    let same : length counts ≡ length g = ap length is ∙ length-map g (λ row. length row) in
    subst (λ (xs : List ℕ). IsUnderWay g counts ready xs) (sym none) (record {
      same_length = same;
      counts = count;
      set = λ p. (
        λ h. let two = (set p).0 h in record {
          is_vertex = omega (arith, two.0, same);
          is_left = in_none p;
          has_ends = none_left [] (row_at g p) (sym (count p) ∙ two.1);
        },
        λ now. (set p).1 (omega (arith, now.is_vertex, same), count p ∙ left_none [] (row_at g p) now.has_ends),
      );
      run = λ k lt. absurd (omega (arith, lt));
    })

-- the step

-- what the predecessors of the next vertex have open
pub counted : (g : Graph) (rows : List (List ℕ)) (counts : List ℕ) (ready : BTreeSet ℕ) (order : List ℕ) (p : ℕ) → ArePredecessors g rows → IsUnderWay g counts ready order → IsIn ready p → (q : ℕ) → times q (row_at rows p) ≤ get_or counts q 0
counted g rows counts ready order p are so_far inside q =
    omega (arith, are q p, so_far.counts q, left_push order p (row_at g q) ((so_far.set p).0 inside).is_left)

-- what stands in the order has nothing open
taken_is_closed : (g : Graph) (counts : List ℕ) (ready : BTreeSet ℕ) (order : List ℕ) → IsUnderWay g counts ready order → (q : ℕ) → Contains order q → get_or counts q 0 ≡ 0
taken_is_closed g counts ready order so_far q h = so_far.counts q ∙ left_none order (row_at g q) (closed g order so_far.run q h)

-- what the set has behind the next vertex
record IsStep (g : Graph) (rows : List (List ℕ)) (counts after : List ℕ) (ready mid later : BTreeSet ℕ) (order : List ℕ) (p : ℕ) : Type 0 where
  are : ArePredecessors g rows
  so_far : IsUnderWay g counts ready order
  inside : IsIn ready p
  others : (q : ℕ) → IsIn mid q ↔ (IsIn ready q × (p ≡ q → ⊥))
  did : Closes (row_at rows p) counts after mid later

module _ (g : Graph) (rows : List (List ℕ)) (counts after : List ℕ) (ready mid later : BTreeSet ℕ) (order : List ℕ) (p : ℕ) (s : IsStep g rows counts after ready mid later order p) where
  count_after : (q : ℕ) → get_or after q 0 ≡ left_of (order ++ p ∷ []) (row_at g q)
  count_after q =
      omega (arith, s.did.counts q, s.are q p, s.so_far.counts q, left_push order p (row_at g q) ((s.so_far.set p).0 s.inside).is_left)

  ready_after : (q : ℕ) → IsIn later q → IsReady g (order ++ p ∷ []) q
  ready_after q h =
      ⊎_elim
      (λ (was : IsIn mid q).
      let two = (s.others q).0 was in
      let old = (s.so_far.set q).0 two.0 in
      record {
        is_vertex = old.is_vertex;
        is_left = λ has. ⊎_elim (λ (before : Contains order q). old.is_left before) (λ (here : p ≡ q). two.1 here) (Contains-push_cases order p q has);
        has_ends = λ r has. Contains-append_left order (p ∷ []) r (old.has_ends r has);
      })
      (λ (now : (0 < get_or counts q 0) × (get_or after q 0 ≡ 0)).
      let none_open = s.so_far.counts p ∙ left_none order (row_at g p) ((s.so_far.set p).0 s.inside).has_ends in
      record {
        is_vertex = omega (arith, within counts q now.0, s.so_far.same_length);
        is_left = λ has. ⊎_elim
            (λ (before : Contains order q). omega (arith, now.0, taken_is_closed g counts ready order s.so_far q before))
            (λ (here : p ≡ q). omega (arith, now.0, ap (λ n. get_or counts n 0) here, none_open))
            (Contains-push_cases order p q has);
        has_ends = none_left (order ++ p ∷ []) (row_at g q) (sym (count_after q) ∙ now.1);
      })
      ((s.did.set q).0 h)

  after_ready : (q : ℕ) → IsReady g (order ++ p ∷ []) q → IsIn later q
  after_ready q now =
      let apart : p ≡ q → ⊥ = λ here. now.is_left (subst (λ n. Contains (order ++ p ∷ []) n) here (Contains-push order p)) in
      ⊎_elim
      (λ (early : get_or counts q 0 ≡ 0).
      let old : IsReady g order q = record {
        is_vertex = now.is_vertex;
        is_left = λ has. now.is_left (Contains-append_left order (p ∷ []) q has);
        has_ends = none_left order (row_at g q) (sym (s.so_far.counts q) ∙ early);
      } in
      (s.did.set q).1 (inl ((s.others q).1 ((s.so_far.set q).1 old, apart))))
      (λ (late : get_or counts q 0 ≡ 0 → ⊥).
      (s.did.set q).1 (inr (omega (arith, late), count_after q ∙ left_none (order ++ p ∷ []) (row_at g q) now.has_ends)))
      (cases_eq (get_or counts q 0) 0)

pub goes_on : (g : Graph) (rows : List (List ℕ)) (counts after : List ℕ) (ready mid later : BTreeSet ℕ) (order : List ℕ) (p : ℕ) → ArePredecessors g rows → IsUnderWay g counts ready order → IsIn ready p → ((q : ℕ) → IsIn ready q → p ≤ q) → ((q : ℕ) → IsIn mid q ↔ (IsIn ready q × (p ≡ q → ⊥))) → Closes (row_at rows p) counts after mid later → IsUnderWay g after later (order ++ p ∷ [])
goes_on g rows counts after ready mid later order p are so_far inside least others did =
    let s : IsStep g rows counts after ready mid later order p = record { are = are; so_far = so_far; inside = inside; others = others; did = did } in
    record {
      same_length = did.same_length ∙ so_far.same_length;
      counts = count_after g rows counts after ready mid later order p s;
      set = λ q. (ready_after g rows counts after ready mid later order p s q, after_ready g rows counts after ready mid later order p s q);
      run = run_more g order p so_far.run (record { ready = (so_far.set p).0 inside; least = λ q now. least q ((so_far.set q).1 now) });
    }

-- the end
pub ends : (g : Graph) (counts : List ℕ) (ready : BTreeSet ℕ) (order : List ℕ) → IsUnderWay g counts ready order → ((p : ℕ) → IsIn ready p → ⊥) → IsOrder g order
ends g counts ready order so_far none = record { run = so_far.run; whole = λ p now. none p ((so_far.set p).1 now) }

-- a set without its least number

apart_tests : (p q : ℕ) → (p ≡ q → ⊥) → is_at (nat_cmp p) q ≡ false
apart_tests p q ne = grind (arith, nat_tests)

pub others_of : (ready mid : BTreeSet ℕ) (p : ℕ) → Updates nat_cmp ready mid p false → (q : ℕ) → IsIn mid q ↔ (IsIn ready q × (p ≡ q → ⊥))
others_of ready mid p u q = (
  λ h.
      let ne : p ≡ q → ⊥ = λ here. false≢true (sym u.1 ∙ subst (λ n. contains nat_cmp mid n ≡ true) (sym here) h) in
      (sym (u.2 q (apart_tests p q ne)) ∙ h, ne),
  λ two. u.2 q (apart_tests p q two.1) ∙ two.0,
)

pub has_some : (set : BTreeSet ℕ) (p : ℕ) → IsIn set p → 0 < length set.keys
has_some set p h = let at = (btree_set_contains_iff nat_cmp_total exact_unsigned set p).0 h in omega (arith, at.1)
