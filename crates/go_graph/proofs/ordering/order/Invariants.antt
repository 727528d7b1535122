use Rattle.std.proofs.Common.{◌+◌, length}
use Rattle.std.specs.Prelude.{sum}
use Rattle.go_graph.specs.OpenEdges.{IsUnderWay}
use Rattle.go_graph.proofs.ordering.order.Given as goal

abbrev pub invariant-loop-next : goal.invariant-loop-next
invariant-loop-next l = IsUnderWay l.graph l.counts.items l.ready l.order.items

abbrev pub decreases-loop-next : goal.decreases-loop-next
decreases-loop-next l = sum l.counts.items + length l.ready.keys
