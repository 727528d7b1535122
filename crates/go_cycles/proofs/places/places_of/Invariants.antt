use Rattle.std.proofs.Common.{◌≡◌, drop}
use Rattle.go_base.specs.declared.ids.ObjId.{ObjId}
use Rattle.go_module.specs.Names.Declarations.{numbers_of}
use Rattle.go_names.specs.Views.{declarations_view}
use Rattle.go_cycles.specs.Places.{placed_by}
use Rattle.go_cycles.proofs.PlaceLemmas.{place_from}
use Rattle.go_cycles.proofs.places.places_of.Given as goal

-- the table has the places of the declarations from the place on
abbrev pub invariant-loop-place : goal.invariant-loop-place
invariant-loop-place l =
    (d : ObjId) → placed_by l.places.entries d ≡ place_from l.place (numbers_of (declarations_view (drop l.place l.declarations))) d
