use Rattle.std.proofs.Common.{◌≡◌, ◌+◌, length, true}
use Rattle.go_graph.specs.Graph.{is_marked}
use Rattle.go_graph.specs.Marks.{IsSearch, unmarked_count}
use Rattle.go_graph.proofs.reach.reached.Given as goal

abbrev pub invariant-loop-vertex : goal.invariant-loop-vertex
invariant-loop-vertex l = IsSearch l.graph (λ s. is_marked l.starts s ≡ true) l.search

abbrev pub decreases-loop-vertex : goal.decreases-loop-vertex
decreases-loop-vertex l = unmarked_count l.search.marks.items + length l.search.stack.items
