-- What stands at a place of a list, and what a row of a graph names.
use Rattle.std.proofs.Common.{◌≡◌, ℕ, ◌+◌, ◌<◌, ◌≤◌, List, [], ◌∷◌, ◌++◌, length, get_or, sym, ◌∙◌, subst, ⊎_elim, arith}
use Rattle.std.specs.Prelude.{slice_get, slice_set, unwrap_or, All, Contains}
use Rattle.std.proofs.lemmas.Bool.{cases_eq, cases_lt}
use Rattle.std.proofs.lemmas.List.{get_or-set_same, get_or-set_other, get_or_append_left, get_or_push, get_or_past, get_or_default}
use Rattle.std.proofs.lemmas.List.Elements.{All-weaker, All-contains_itself}
use Rattle.std.proofs.lemmas.Option.{unwrap_or-slice_get}
use Rattle.go_graph.specs.Graph.{Graph, HasEdge, IsGraph, row_at}

module _ {X : Type 0} (d : X) where
  -- what stands at a place, and d where there is nothing
  abbrev at : List X → ℕ → X
  at xs k = unwrap_or (slice_get xs k) d

  at_past : (xs : List X) (k : ℕ) → length xs ≤ k → at xs k ≡ d
  at_past xs k le = unwrap_or-slice_get xs k d ∙ get_or_past xs k d le

  -- what an index reads
  pub at_read : (xs : List X) (k : ℕ) (x : X) → k < length xs → x ≡ get_or xs k x → at xs k ≡ x
  at_read xs k x lt e = unwrap_or-slice_get xs k d ∙ get_or_default xs k d x lt ∙ sym e

  -- what a list has stands at a place

  pub has_at : (xs : List X) (x : X) (h : Contains xs x) → at xs h.0 ≡ x
  has_at xs x h = unwrap_or-slice_get xs h.0 d ∙ get_or_default xs h.0 d x h.1 ∙ h.2

  pub at_has : (xs : List X) (x : X) (k : ℕ) → k < length xs → at xs k ≡ x → Contains xs x
  at_has xs x k lt e = (k, lt, get_or_default xs k x d lt ∙ sym (unwrap_or-slice_get xs k d) ∙ e)

  -- an element set

  pub at_set : (xs : List X) (k : ℕ) (x : X) → k < length xs → at (slice_set xs k x) k ≡ x
  at_set xs k x lt = unwrap_or-slice_get (slice_set xs k x) k d ∙ get_or-set_same xs k x d lt

  pub at_set_other : (xs : List X) (k j : ℕ) (x : X) → (k ≡ j → ⊥) → at (slice_set xs k x) j ≡ at xs j
  at_set_other xs k j x ne = unwrap_or-slice_get (slice_set xs k x) j d ∙ get_or-set_other xs k j x d (λ e. ne (sym e)) ∙ sym (unwrap_or-slice_get xs j d)

  -- an element put behind the others

  at_end : (xs : List X) (x : X) (k : ℕ) → length xs ≡ k → at (xs ++ x ∷ []) k ≡ x
  at_end xs x k same = unwrap_or-slice_get (xs ++ x ∷ []) k d ∙ get_or_push xs x d k same

  at_below : (xs : List X) (x : X) (k : ℕ) → k < length xs → at (xs ++ x ∷ []) k ≡ at xs k
  at_below xs x k lt = unwrap_or-slice_get (xs ++ x ∷ []) k d ∙ get_or_append_left xs (x ∷ []) d k lt ∙ sym (unwrap_or-slice_get xs k d)

  -- what holds of each element holds of one more
  pub each_more : (Q : ℕ → X → Type 0) (xs after : List X) (x : X) (n : ℕ) → length xs ≡ n → after ≡ xs ++ x ∷ [] → ((k : ℕ) → k < n → Q k (at xs k)) → Q n x → (k : ℕ) → k < n + 1 → Q k (at after k)
  each_more Q xs after x n same pushed each last k lt =
      subst (λ (ys : List X). Q k (at ys k)) (sym pushed) (⊎_elim
      (λ (here : n ≡ k). subst (λ m. Q m (at (xs ++ x ∷ []) m)) here (subst (Q n) (sym (at_end xs x n same)) last))
      (λ (ne : n ≡ k → ⊥). subst (Q k) (sym (at_below xs x k (omega arith))) (each k (omega arith)))
      (cases_eq n k))

-- an edge begins at a vertex
pub edge_within : (g : Graph) (a b : ℕ) → HasEdge g a b → a < length g
edge_within g a b e = ⊎_elim
    (λ (lt : a < length g). lt)
    (λ (le : length g ≤ a). absurd (let has = subst (λ (xs : List ℕ). Contains xs b) (at_past [] g a le) e in omega (arith, has.1)))
    (cases_lt a (length g))

-- a row names vertices
pub row_below : (g : Graph) (v n : ℕ) → IsGraph g → n ≡ length g → All (λ b. b < n) (row_at g v)
row_below g v n graph same =
    All-weaker (Contains (row_at g v)) (λ b. b < n) (λ b has. let lt = graph v b has in omega arith) (row_at g v) (All-contains_itself (row_at g v))
