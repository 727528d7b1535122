-- Edges that lie on a cycle.
-- Decides which edges lie on one, and when marks tell of each edge whether it does.
use Rattle.std.specs.Prelude.{◌≡◌, ℕ, ◌<◌, ◌↔◌, Bool, true, List, length, map, slice_index, Vec}
use Rattle.std.specs.Global.{Global}
use Rattle.go_graph.specs.Graph.{Graph, Reaches, is_marked, row_at}

-- the marks of each row
abbrev pub marks_of : List (Vec Bool Global) → List (List Bool)
marks_of rows = map (λ row. row.items) rows

-- an edge from a to b lies on a cycle: b is a, or leads back to it
abbrev pub OnCycle : Graph → ℕ → ℕ → Type 0
OnCycle g a b = Reaches g b a

-- a mark for each number of a list: true exactly where the number has a property
pub record MarksEach (P : ℕ → Type 0) (row : List ℕ) (marks : List Bool) : Type 0 where
  pub same_length : length marks ≡ length row
  pub exact : (k : ℕ) → k < length row → (is_marked marks k ≡ true) ↔ P (slice_index row k)

-- for each vertex a row of marks, which tells which of its edges lie on a cycle
pub record MarksCycles (g : Graph) (rows : List (List Bool)) : Type 0 where
  pub same_length : length rows ≡ length g
  pub each : (a : ℕ) → a < length g → MarksEach (OnCycle g a) (row_at g a) (row_at rows a)
