use Rattle.std.proofs.Common.{◌≡◌, ◌<◌, ℕ, length, true}
use Rattle.std.specs.Prelude.{◌↔◌}
use Rattle.go_graph.specs.Graph.{Path, is_marked}
use Rattle.go_graph.proofs.cycles.cyclic_vertices.Given as goal

abbrev pub invariant-loop-row : goal.invariant-loop-row
invariant-loop-row l = record {
  so_many : length l.marks.items ≡ l.row-index;
  exact : (v : ℕ) → v < l.row-index → (is_marked l.marks.items v ≡ true) ↔ Path l.graph v v;
}
