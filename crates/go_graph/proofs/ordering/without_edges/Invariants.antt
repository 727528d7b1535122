use Rattle.std.proofs.Common.{◌≡◌, ◌<◌, ℕ, get_or}
use Rattle.std.specs.Prelude.{◌↔◌}
use Rattle.go_graph.specs.OpenEdges.{IsIn}
use Rattle.go_graph.proofs.ordering.without_edges.Given as goal

abbrev pub invariant-loop-vertex : goal.invariant-loop-vertex
invariant-loop-vertex l = (v : ℕ) → IsIn l.set v ↔ ((v < l.vertex) × (get_or l.counts v 0 ≡ 0))
