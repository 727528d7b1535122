-- Graphs, and what is reached in them.
-- Decides which edges a graph has, and which vertices are reached from a set of vertices, from the ends of
-- the edges of one, and from one. A graph has a row for each vertex: those that its edges lead to. A vertex
-- is known by the place of its row.
use Rattle.std.specs.Prelude.{◌≡◌, ℕ, ◌<◌, Bool, false, Option, List, [], length, slice_get, unwrap_or, Contains}

abbrev pub Graph : Type 0
Graph = List (List ℕ)

-- the row at a place, and an empty one where there is none
abbrev pub row_at : {A : Type 0} → List (List A) → ℕ → List A
row_at rows k = unwrap_or (slice_get rows k) []

-- the mark at a place, and false where there is none
abbrev pub is_marked : List Bool → ℕ → Bool
is_marked marks k = unwrap_or (slice_get marks k) false

-- an edge leads from a to b
abbrev pub HasEdge : Graph → ℕ → ℕ → Type 0
HasEdge g a b = Contains (row_at g a) b

-- the end of the k-th edge of a, if there is one
abbrev pub edge_at : Graph → ℕ → ℕ → Option ℕ
edge_at g a k = slice_get (row_at g a) k

-- all edges lead to vertices
abbrev pub IsGraph : Graph → Type 0
IsGraph g = (a b : ℕ) → HasEdge g a b → b < length g

-- a vertex of the set, or the end of an edge of a reached vertex
pub data ReachedFrom (g : Graph) (IsStart : ℕ → Type 0) : ℕ → Type 0 where
  start : (v : ℕ) → IsStart v → ReachedFrom g IsStart v
  further : (a b : ℕ) → ReachedFrom g IsStart a → HasEdge g a b → ReachedFrom g IsStart b

-- some edges, one after another, lead from a to b
abbrev pub Path : Graph → ℕ → ℕ → Type 0
Path g a b = ReachedFrom g (HasEdge g a) b

-- no edge or some edges lead from a to b
abbrev pub Reaches : Graph → ℕ → ℕ → Type 0
Reaches g a b = ReachedFrom g (λ v. a ≡ v) b
