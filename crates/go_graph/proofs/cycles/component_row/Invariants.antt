use Rattle.std.proofs.Common.{◌≡◌, ◌<◌, ℕ, get_or, length, true}
use Rattle.std.specs.Prelude.{◌↔◌}
use Rattle.go_graph.specs.Certificate.{AreTogether}
use Rattle.go_graph.specs.Graph.{is_marked}
use Rattle.go_graph.proofs.cycles.component_row.Given as goal

abbrev pub invariant-loop-to : goal.invariant-loop-to
invariant-loop-to l = record {
  so_many : length l.marks.items ≡ l.to-index;
  exact : (k : ℕ) → k < l.to-index → (is_marked l.marks.items k ≡ true) ↔ AreTogether l.vertices l.from (get_or l.row k 0);
}
