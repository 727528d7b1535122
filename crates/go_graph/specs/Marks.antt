-- Marks on the vertices of a graph.
-- Says what a search keeps: what it has marked, and what of this stands on its stack, since its edges are
-- still to be followed.
use Rattle.std.specs.Prelude.{◌≡◌, ℕ, suc, ◌+◌, ◌⊎◌, Bool, true, false, List, [], ◌∷◌, length, Contains}
use Rattle.go_graph.specs.Graph.{Graph, HasEdge, ReachedFrom, is_marked}
use Rattle.go_graph.specs.declared.reach.Search.{Search}

-- how many vertices are not marked
abbrev pub unmarked_count : List Bool → ℕ
unmarked_count [] = 0
unmarked_count (false ∷ marks) = suc (unmarked_count marks)
unmarked_count (true ∷ marks) = unmarked_count marks

-- more is marked; what is marked newly is put on the stack, once each, and nothing without a mark
pub record Extends (old new : Search) : Type 0 where
  pub same_length : length new.marks.items ≡ length old.marks.items
  pub keeps : (v : ℕ) → is_marked old.marks.items v ≡ true → is_marked new.marks.items v ≡ true
  pub put : (v : ℕ) → is_marked new.marks.items v ≡ true → (is_marked old.marks.items v ≡ true) ⊎ Contains new.stack.items v
  pub stays : (v : ℕ) → Contains old.stack.items v → Contains new.stack.items v
  pub only : (v : ℕ) → Contains new.stack.items v → Contains old.stack.items v ⊎ (is_marked new.marks.items v ≡ true)
  pub once : unmarked_count new.marks.items + length new.stack.items ≡ unmarked_count old.marks.items + length old.stack.items

-- what a search has marked: reached vertices, among them those of the set, and all that the edges of the
-- marked vertices lead to, but for those of the vertices on the stack
pub record IsSearch (g : Graph) (IsStart : ℕ → Type 0) (search : Search) : Type 0 where
  pub length_is : length search.marks.items ≡ length g
  pub sound : (v : ℕ) → is_marked search.marks.items v ≡ true → ReachedFrom g IsStart v
  pub on_stack : (v : ℕ) → Contains search.stack.items v → is_marked search.marks.items v ≡ true
  pub first : (v : ℕ) → IsStart v → is_marked search.marks.items v ≡ true
  pub closed : (a b : ℕ) → is_marked search.marks.items a ≡ true → HasEdge g a b → (is_marked search.marks.items b ≡ true) ⊎ Contains search.stack.items a
