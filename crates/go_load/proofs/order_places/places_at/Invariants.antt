use Rattle.std.proofs.Common.{◌≡◌, take}
use Rattle.std.specs.List.{filter_map}
use Rattle.go_load.specs.Packages.Assembly.{slot_at}
use Rattle.go_load.proofs.order_places.places_at.Given as goal

abbrev pub invariant-loop-number : goal.invariant-loop-number
invariant-loop-number l = l.list.items ≡ filter_map (slot_at l.places) (take l.number-index l.packages)
