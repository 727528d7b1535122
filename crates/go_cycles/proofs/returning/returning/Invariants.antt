use Rattle.std.proofs.Common.{◌≡◌, ℕ, ◌<◌, true, Contains, length, take}
use Rattle.go_graph.specs.Graph.{is_marked}
use Rattle.go_cycles.proofs.returning.returning.Given as goal

-- what is marked does not stand among the vertices so far, and all that does not is marked
abbrev pub invariant-loop-vertex : goal.invariant-loop-vertex
invariant-loop-vertex l = record {
  long : length l.marks.items ≡ length l.graph;
  only : (v : ℕ) → is_marked l.marks.items v ≡ true → Contains (take l.vertex-index l.vertex-items) v → ⊥;
  all : (v : ℕ) → v < length l.graph → (Contains (take l.vertex-index l.vertex-items) v → ⊥) → is_marked l.marks.items v ≡ true;
}
