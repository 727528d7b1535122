use Rattle.std.proofs.Common.{◌≡◌, None, replicate}
use Rattle.go_load.proofs.order_places.no_places.Given as goal

abbrev pub invariant-loop : goal.invariant-loop
invariant-loop l = l.places.items ≡ replicate l.counter None
