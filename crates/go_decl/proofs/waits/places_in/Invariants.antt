use Rattle.std.proofs.Common.{◌≡◌, ◌++◌, drop}
use Rattle.std.specs.List.{flat_map}
use Rattle.go_decl.specs.Places.{placed_by}
use Rattle.go_decl.specs.Waits.{place_list}
use Rattle.go_decl.proofs.waits.places_in.Given as goal

abbrev pub invariant-loop-number : goal.invariant-loop-number
invariant-loop-number l =
    l.list ++ flat_map (place_list (placed_by l.places.entries)) (drop l.number-index l.numbers) ≡ flat_map (place_list (placed_by l.places.entries)) l.numbers
