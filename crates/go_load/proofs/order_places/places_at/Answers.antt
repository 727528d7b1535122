use Rattle.std.proofs.Common.{arith}
use Rattle.go_load.specs.Packages.Assembly.{slot_at}
use Rattle.go_load.proofs.SlotLemmas.{filter_map-push}
use Rattle.go_load.proofs.order_places.places_at.Goals as goal

pub loop-number-preserved : goal.loop-number-preserved
loop-number-preserved c =
    let numbers = c.args.packages.now in
    let i = c.loop-number.number-index in
    filter_map-push (slot_at c.args.places.now) numbers i c.loop-number.list.items c.push_some.new.list.items c.place_at.result (omega arith) c.place_at.ensures c.loop-number.invariant c.in_ok-push_some.ensures
