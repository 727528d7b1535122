-- An order by repeated choice.
-- Decides which vertex is next behind others, and what the whole order is: each vertex behind all that its
-- edges lead to, and of those that may stand next the least.
use Rattle.std.specs.Prelude.{◌≢◌, ℕ, ◌<◌, ◌≤◌, List, length, take, slice_index, Contains}
use Rattle.go_graph.specs.Graph.{Graph, HasEdge}

-- vertex v does not stand in front, and all that its edges lead to does
pub record IsReady (g : Graph) (front : List ℕ) (v : ℕ) : Type 0 where
  pub is_vertex : v < length g
  pub is_left : Contains front v → ⊥
  pub has_ends : (b : ℕ) → HasEdge g v b → Contains front b

-- v is the least vertex that is ready
pub record IsNext (g : Graph) (front : List ℕ) (v : ℕ) : Type 0 where
  pub ready : IsReady g front v
  pub least : (w : ℕ) → IsReady g front w → v ≤ w

-- each vertex is next behind those before it
abbrev pub IsRun : Graph → List ℕ → Type 0
IsRun g order = (k : ℕ) → k < length order → IsNext g (take k order) (slice_index order k)

-- each vertex is next behind those before it, and behind all of them none is ready
pub record IsOrder (g : Graph) (order : List ℕ) : Type 0 where
  pub run : IsRun g order
  pub whole : (v : ℕ) → IsReady g order v → ⊥

-- vertices, each of them once and behind all that its edges lead to
pub record Respects (g : Graph) (list : List ℕ) : Type 0 where
  pub vertices : (k : ℕ) → k < length list → slice_index list k < length g
  pub once : (i k : ℕ) → i < k → k < length list → slice_index list i ≢ slice_index list k
  pub behind : (k : ℕ) → k < length list → (b : ℕ) → HasEdge g (slice_index list k) b → Contains (take k list) b
