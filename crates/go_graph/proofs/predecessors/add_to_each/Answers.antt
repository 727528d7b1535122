use Rattle.std.proofs.Common.{◌<◌, ◌++◌, ◌∷◌, [], ◌∙◌, ap, arith, get_or, length, sym}
use Rattle.std.proofs.lemmas.List.{length-set}
use Rattle.go_graph.proofs.PlaceLemmas.{at_read}
use Rattle.go_graph.proofs.PredecessorLemmas.{adds_more, adds_one}
use Rattle.go_graph.proofs.predecessors.add_to_each.Goals as goal

pub loop-end-preserved : goal.loop-end-preserved
loop-end-preserved c =
    let rows = c.loop-end.rows.items in
    let ends = c.args.ends.now in
    let vertex = c.args.vertex in
    let inv = c.loop-end.invariant in
    let end = get_or ends c.loop-end.end-index 0 in
    let within : end < length rows = let lt = c.requires c.loop-end.end-index 0 c.loop-end-test.true in omega (arith, inv.so_many) in
    let at = at_read [] rows end c.index_mut.result.now within c.index_mut.ensures.value in
    let one = adds_one rows end vertex c.push.new.self within (c.in_ok-push.ensures ∙ ap (λ row. row ++ vertex ∷ []) (sym at)) in
    record {
      so_many = length-set rows end c.push.new.self ∙ inv.so_many;
      adds = adds_more vertex ends c.loop-end.end-index c.args.rows.now.items rows _ c.loop-end-test.true inv.adds one;
    }
