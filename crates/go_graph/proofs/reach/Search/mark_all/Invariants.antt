use Rattle.std.proofs.Common.{◌≡◌, ℕ, ◌⊎◌, ◌<◌, true, get_or, Contains}
use Rattle.go_graph.specs.Graph.{is_marked}
use Rattle.go_graph.specs.Marks.{Extends}
use Rattle.go_graph.proofs.reach.Search.mark_all.Given as goal

abbrev pub invariant-loop-vertex : goal.invariant-loop-vertex
invariant-loop-vertex l = record {
  extends : Extends l.fn.self l.self;
  only : (v : ℕ) → is_marked l.self.marks.items v ≡ true → (is_marked l.fn.self.marks.items v ≡ true) ⊎ Contains l.vertices v;
  all : (k : ℕ) → k < l.vertex-index → is_marked l.self.marks.items (get_or l.vertices k 0) ≡ true;
}
