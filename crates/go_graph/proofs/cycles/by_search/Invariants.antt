use Rattle.std.proofs.Common.{◌≡◌, ◌<◌, ℕ, length}
use Rattle.go_graph.specs.Cycles.{MarksEach, OnCycle, marks_of}
use Rattle.go_graph.specs.Graph.{row_at}
use Rattle.go_graph.proofs.cycles.by_search.Given as goal

abbrev pub invariant-loop-vertex : goal.invariant-loop-vertex
invariant-loop-vertex l = record {
  so_many : length l.rows.items ≡ l.vertex;
  each : (a : ℕ) → a < l.vertex → MarksEach (OnCycle l.graph a) (row_at l.graph a) (row_at (marks_of l.rows.items) a);
}
