use Rattle.std.proofs.Common.{ℕ, ◌<◌, length}
use Rattle.go_graph.specs.Graph.{HasEdge}
use Rattle.go_graph.proofs.graph.is_graph.Given as goal

abbrev pub invariant-loop-row : goal.invariant-loop-row
invariant-loop-row l = (a : ℕ) → a < l.row-index → (b : ℕ) → HasEdge l.rows a b → b < length l.rows
