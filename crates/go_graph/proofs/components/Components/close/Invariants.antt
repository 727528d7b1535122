use Rattle.std.proofs.Common.{length}
use Rattle.go_graph.proofs.components.Components.close.Given as goal

abbrev pub decreases-loop-vertex : goal.decreases-loop-vertex
decreases-loop-vertex l = length l.self.open.items
