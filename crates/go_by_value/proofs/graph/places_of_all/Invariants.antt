use Rattle.std.proofs.Common.{◌≡◌, ◌++◌, drop}
use Rattle.std.specs.List.{flat_map}
use Rattle.go_cycles.specs.Places.{placed_by}
use Rattle.go_by_value.specs.Holding.{place_list}
use Rattle.go_by_value.proofs.graph.places_of_all.Given as goal

abbrev pub invariant-loop-d : goal.invariant-loop-d
invariant-loop-d l =
    l.list ++ flat_map (place_list (placed_by l.places.entries)) (drop l.d-index l.held) ≡ flat_map (place_list (placed_by l.places.entries)) l.held
