use Rattle.std.proofs.Common.{arith}
use Rattle.go_records.proofs.NameLemmas.{one_more_place}
use Rattle.go_records.proofs.names.places_of.Goals as goal

pub loop-place-preserved : goal.loop-place-preserved
loop-place-preserved c =
    one_more_place c.args.objects.now c.loop-place.place c.index-objects-place.result
    c.loop-place.places.entries c.insert.new.self.entries
    (omega arith) (omega arith) c.in_ok-insert.ensures.entries c.loop-place.invariant
