use Rattle.std.proofs.Common.{arith}
use Rattle.go_graph.proofs.CycleLemmas.{rows_more}
use Rattle.go_graph.proofs.cycles.by_search.Goals as goal

pub loop-vertex-preserved : goal.loop-vertex-preserved
loop-vertex-preserved c =
    let inv = c.loop-vertex.invariant in
    record {
      so_many = omega (arith, c.in_ok-push.ensures.len);
      each = rows_more c.args.graph.now c.loop-vertex.rows.items c.push.new.self.items c.in_ok-search_row.field-0 c.loop-vertex.vertex inv.so_many c.in_ok-push.ensures.items inv.each c.in_ok-search_row.ensures;
    }
