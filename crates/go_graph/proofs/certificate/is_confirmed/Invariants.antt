use Rattle.std.proofs.Common.{ℕ, ◌<◌}
use Rattle.go_graph.specs.Certificate.{IsDownward, IsJoined}
use Rattle.go_graph.specs.Graph.{HasEdge}
use Rattle.go_graph.proofs.certificate.is_confirmed.Given as goal

abbrev pub invariant-loop-vertex : goal.invariant-loop-vertex
invariant-loop-vertex l = record {
  joined : (v : ℕ) → v < l.vertex → IsJoined l.graph l.vertices l.leaders v;
  downward : (v : ℕ) → v < l.vertex → (b : ℕ) → HasEdge l.graph v b → IsDownward l.vertices v b;
}
