use Rattle.std.proofs.Common.{take}
use Rattle.go_graph.specs.OpenEdges.{Closes}
use Rattle.go_graph.proofs.ordering.close.Given as goal

abbrev pub invariant-loop-vertex : goal.invariant-loop-vertex
invariant-loop-vertex l = Closes (take l.vertex-index l.list) l.fn.counts.items l.counts.items l.fn.ready l.ready
