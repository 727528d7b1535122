use Rattle.std.proofs.Common.{◌≡◌, ◌<◌, ℕ, Contains, true}
use Rattle.go_graph.specs.Graph.{is_marked}
use Rattle.go_graph.proofs.reach.marked.Given as goal

abbrev pub invariant-loop-place : goal.invariant-loop-place
invariant-loop-place l = record {
  only : (v : ℕ) → Contains l.places.items v → is_marked l.marks v ≡ true;
  all : (v : ℕ) → v < l.place → is_marked l.marks v ≡ true → Contains l.places.items v;
}
