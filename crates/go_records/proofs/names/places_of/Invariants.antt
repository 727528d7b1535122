use Rattle.go_records.proofs.NameLemmas.{ArePlacesFrom}
use Rattle.go_records.proofs.names.places_of.Given as goal

-- the table has the places of the objects from the place on
abbrev pub invariant-loop-place : goal.invariant-loop-place
invariant-loop-place l = ArePlacesFrom l.objects l.place l.places.entries
