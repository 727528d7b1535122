use Rattle.std.proofs.Common.{◌≡◌, ◌∙◌, ap, sym, true, false, arith}
use Rattle.std.proofs.lemmas.Grind.{common_steps}
use Rattle.go_mod.specs.Listing as listing
use Rattle.go_mod.proofs.ListingLemmas.{filter_one_more}
use Rattle.go_mod.proofs.listing.in_any_order.Goals as goal
use Rattle.go_mod.proofs.listing.in_any_order.Goals.{then-counts+in_ok-clone+in_ok-push, else-counts}

pub loop-path-preserved : goal.loop-path-preserved
loop-path-preserved c =
    let paths = c.args.paths.now in
    let path = c.path-item.result in
    let passes : listing.counts paths path ≡ c.counts.result =
    ap (listing.counts paths) (sym c.as_bytes.ensures) ∙ sym (c.counts.ensures paths c.in_ok-modules.ensures) in
    elim c.if-counts.branch [
      | then-counts+in_ok-clone+in_ok-push w ↦
          let more = filter_one_more (listing.counts paths) paths c.loop-path.path-index path true (omega arith) c.path-item.is (passes ∙ w.if-counts.true) in
          grind (arith, common_steps, more)
      | else-counts w ↦
          let more = filter_one_more (listing.counts paths) paths c.loop-path.path-index path false (omega arith) c.path-item.is (passes ∙ w.if-counts.false) in
          grind (arith, common_steps, more)
    ]
