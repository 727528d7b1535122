use Rattle.std.proofs.Common.{◌-◌, ◌∙◌, ap, arith}
use Rattle.indexmap.specs.IndexMap.{insert_entry}
use Rattle.go_module.specs.Names.Declarations.{number_of}
use Rattle.go_module.specs.Scopes.{same_object}
use Rattle.go_names.specs.Views.{declaration_view}
use Rattle.go_cycles.proofs.PlaceLemmas.{one_more_place}
use Rattle.go_cycles.proofs.places.places_of.Goals as goal

pub loop-place-preserved : goal.loop-place-preserved
loop-place-preserved c =
    one_more_place declaration_view number_of c.args.declarations.now c.loop-place.place c.index-declarations-place.result c.loop-place.places.entries c.insert.new.self.entries
    (omega arith) (omega arith) c.index-declarations-place.is
    (c.in_ok-insert.ensures.entries ∙ ap (λ k. insert_entry same_object c.loop-place.places.entries k (c.loop-place.place - 1)) c.number.ensures)
    c.loop-place.invariant
