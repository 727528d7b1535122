use Rattle.std.proofs.Common.{◌≡◌, take, length}
use Rattle.go_graph.specs.OpenEdges.{ArePredecessors}
use Rattle.go_graph.proofs.predecessors.predecessors.Given as goal

abbrev pub invariant-loop-vertex : goal.invariant-loop-vertex
invariant-loop-vertex l = record {
  so_many : length l.rows.items ≡ length l.graph;
  so_far : ArePredecessors (take l.vertex l.graph) l.rows.items;
}
