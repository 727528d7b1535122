use Rattle.std.proofs.Common.{◌≡◌, length, take}
use Rattle.go_graph.specs.OpenEdges.{Adds}
use Rattle.go_graph.proofs.predecessors.add_to_each.Given as goal

abbrev pub invariant-loop-end : goal.invariant-loop-end
invariant-loop-end l = record {
  so_many : length l.rows.items ≡ length l.fn.rows.items;
  adds : Adds l.vertex (take l.end-index l.ends) l.fn.rows.items l.rows.items;
}
