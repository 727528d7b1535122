use Rattle.std.proofs.Common.{List, arith, subst, ℕ}
use Rattle.go_graph.specs.Certificate.{AreTogether}
use Rattle.go_graph.specs.Cycles.{MarksEach}
use Rattle.go_graph.proofs.CycleLemmas.{rows_more, together_marks}
use Rattle.go_graph.proofs.cycles.by_component.Goals as goal

pub loop-vertex-preserved : goal.loop-vertex-preserved
loop-vertex-preserved c =
    let g = c.args.graph.now in
    let v = c.loop-vertex.vertex in
    let new = c.in_ok-component_row.field-0 in
    let inv = c.loop-vertex.invariant in
    let row = subst (λ (r : List ℕ). MarksEach (AreTogether c.args.vertices.now v) r new.items) c.row_at.ensures c.in_ok-component_row.ensures in
    record {
      so_many = omega (arith, c.in_ok-push.ensures.len);
      each = rows_more g c.loop-vertex.rows.items c.push.new.self.items new v inv.so_many c.in_ok-push.ensures.items inv.each
          (together_marks g c.args.vertices.now v new.items c.requires.graph c.requires.components row);
    }
