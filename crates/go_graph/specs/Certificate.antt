-- What bears out the components that a search has found.
-- Each vertex has the number of its component. Two vertices have one number exactly where each reaches
-- the other: no edge leads to a higher number, and the leader of a component reaches each of its
-- vertices and is reached from each.
use Rattle.std.specs.Prelude.{◌≡◌, ℕ, ◌<◌, ◌≤◌, ◌↔◌, ◌⊎◌, Some, List, length, slice_get}
use Rattle.go_graph.specs.declared.components.Vertex.{Vertex}
use Rattle.go_graph.specs.Graph.{Graph, HasEdge, Reaches, edge_at}

-- an edge leads to v from a vertex of its component that was reached before it
pub record ComesFrom (g : Graph) (vs : List Vertex) (v : ℕ) (told : Vertex) : Type 0 where
  pub parent : Vertex
  pub at : slice_get vs told.parent ≡ Some parent
  pub edge : edge_at g told.parent told.parent_edge ≡ Some v
  pub same : parent.component ≡ told.component
  pub before : parent.index < told.index

-- from the first vertex a lower index is reached than from the second, or the same and it was reached
-- later
abbrev pub IsNearer : Vertex → Vertex → Type 0
IsNearer next told = (next.low < told.low) ⊎ ((next.low ≡ told.low) × (told.index < next.index))

-- an edge leads from v to a vertex of its component that is its leader or nearer to it
pub record LeadsBack (g : Graph) (vs : List Vertex) (leader v : ℕ) (told : Vertex) : Type 0 where
  pub end : ℕ
  pub next : Vertex
  pub at : slice_get vs end ≡ Some next
  pub edge : edge_at g v told.back_edge ≡ Some end
  pub same : next.component ≡ told.component
  pub nearer : (end ≡ leader) ⊎ IsNearer next told

-- v is the leader of its component, or joined to it both ways
pub record IsJoined (g : Graph) (vs : List Vertex) (leaders : List ℕ) (v : ℕ) : Type 0 where
  pub told : Vertex
  pub at : slice_get vs v ≡ Some told
  pub leader : ℕ
  pub leads : slice_get leaders told.component ≡ Some leader
  pub joined : (leader ≡ v) ⊎ (ComesFrom g vs v told × LeadsBack g vs leader v told)

-- the component of b has no higher number than that of a
pub record IsDownward (vs : List Vertex) (a b : ℕ) : Type 0 where
  pub from : Vertex
  pub from_at : slice_get vs a ≡ Some from
  pub to : Vertex
  pub to_at : slice_get vs b ≡ Some to
  pub downward : to.component ≤ from.component

pub record IsConfirmed (g : Graph) (vs : List Vertex) (leaders : List ℕ) : Type 0 where
  pub same_length : length vs ≡ length g
  pub joined : (v : ℕ) → v < length g → IsJoined g vs leaders v
  pub downward : (a b : ℕ) → HasEdge g a b → IsDownward vs a b

-- a and b have one component
pub record AreTogether (vs : List Vertex) (a b : ℕ) : Type 0 where
  pub from : Vertex
  pub from_at : slice_get vs a ≡ Some from
  pub to : Vertex
  pub to_at : slice_get vs b ≡ Some to
  pub same : from.component ≡ to.component

-- two vertices have one component exactly where each reaches the other
abbrev pub AreComponents : Graph → List Vertex → Type 0
AreComponents g vs = (a b : ℕ) → a < length g → b < length g → AreTogether vs a b ↔ (Reaches g a b × Reaches g b a)
