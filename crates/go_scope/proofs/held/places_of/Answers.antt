use Rattle.std.proofs.Common.{subst, arith}
use Rattle.std.proofs.lemmas.List.{take_all}
use Rattle.go_scope.specs.Held.{ArePlaces}
use Rattle.go_scope.proofs.HeldLemmas.{places_more}
use Rattle.go_scope.proofs.held.places_of.Goals as goal

pub loop-i-preserved : goal.loop-i-preserved
loop-i-preserved c =
    places_more c.args.regions.now c.loop-i.i c.index-regions-i.result c.loop-i.places.entries c.add_place.new.places.entries
    (omega arith) c.index-regions-i.is c.loop-i.invariant c.in_ok-add_place.ensures

pub returns : goal.returns
returns c =
    let whole = take_all c.loop-i.i c.args.regions.now (omega arith) in
    subst (λ regions. ArePlaces regions c.loop-i.places.entries) whole c.loop-i.invariant
