use Rattle.std.proofs.Common.{◌≡◌, ◌<◌, List, Option, ℕ, get_or, length, refl, ap, ◌∙◌, arith}
use Rattle.go_load.specs.Packages.Assembly.{put_first}
use Rattle.go_load.proofs.OrderPlaceLemmas.{place_more, written_whole}
use Rattle.go_load.proofs.order_places.places_of.Goals as goal

pub loop-place-preserved : goal.loop-place-preserved
loop-place-preserved c =
    let old = c.loop-place.places.items in
    let new = c.put_first.new.places in
    let order = c.args.order.now in
    let i = c.loop-place.place in
    let inv = c.loop-place.invariant in
    let here : get_or order i 0 < c.args.count = c.requires i 0 c.loop-place-test.true in
    let inside : get_or order i 0 < length old = omega (arith, here, inv.so_many) in
    let whole = written_whole old new c.loop-place.places.len (omega arith) (omega arith) in
    let now : new ≡ put_first old (get_or order i 0) i = c.put_first.ensures ∙ ap (λ (xs : List (Option ℕ)). put_first xs (get_or order i 0) i) c.deref_mut.ensures.value in
    rw whole (record {
      so_many = omega (arith, inv.so_many);
      so_far = place_more order i (get_or order i 0) old new c.loop-place-test.true refl inside now inv.so_far;
    })
