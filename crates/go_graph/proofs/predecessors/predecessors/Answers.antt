use Rattle.std.proofs.Common.{◌<◌, ◌∙◌, All, List, [], length, subst, sym, ℕ}
use Rattle.go_graph.proofs.PlaceLemmas.{at_read, row_below}
use Rattle.go_graph.proofs.PredecessorLemmas.{predecessors_more}
use Rattle.go_graph.proofs.predecessors.predecessors.Goals as goal

pub add_to_each-requires : goal.add_to_each-requires
add_to_each-requires c =
    let g = c.args.graph.now in
    let v = c.loop-vertex.vertex in
    let n = length c.loop-vertex.rows.items in
    let at = at_read [] g v c.index-graph-vertex.result c.loop-vertex-test.true c.index-graph-vertex.is in
    subst (λ (row : List ℕ). All (λ b. b < n) row) (at ∙ sym c.as_slice.ensures) (row_below g v n c.requires c.loop-vertex.invariant.so_many)

pub loop-vertex-preserved : goal.loop-vertex-preserved
loop-vertex-preserved c =
    let g = c.args.graph.now in
    let v = c.loop-vertex.vertex in
    let inv = c.loop-vertex.invariant in
    let did = c.in_ok-add_to_each.ensures in
    let at = at_read [] g v c.index-graph-vertex.result c.loop-vertex-test.true c.index-graph-vertex.is in
    record {
      so_many = did.length ∙ inv.so_many;
      so_far = predecessors_more g c.loop-vertex.rows.items c.add_to_each.new.rows.items v c.as_slice.result.now c.loop-vertex-test.true (at ∙ sym c.as_slice.ensures) inv.so_far did.adds;
    }
