use Rattle.std.proofs.Common.{ℕ, ◌<◌, get_or}
use Rattle.go_graph.specs.Certificate.{IsDownward}
use Rattle.go_graph.proofs.certificate.descends.Given as goal

abbrev pub invariant-loop-to : goal.invariant-loop-to
invariant-loop-to l = (k : ℕ) → k < l.to-index → IsDownward l.vertices l.vertex (get_or l.to-items k 0)
