use Rattle.std.proofs.Common.{◌≡◌, ◌==◌, ℕ, length, take}
use Rattle.std.specs.Prelude.{position}
use Rattle.go_load.specs.Packages.Assembly.{slot_at}
use Rattle.go_load.proofs.order_places.places_of.Given as goal

abbrev pub invariant-loop-place : goal.invariant-loop-place
invariant-loop-place l = record {
  so_many : length l.places.items ≡ l.count;
  so_far : (q : ℕ) → slot_at l.places.items q ≡ position (λ p. p == q) (take l.place l.order);
}
