use Rattle.std.proofs.Common.{arith}
use Rattle.go_graph.specs.Certificate.{AreTogether}
use Rattle.go_graph.proofs.CycleLemmas.{marks_more}
use Rattle.go_graph.proofs.cycles.component_row.Goals as goal

pub loop-to-preserved : goal.loop-to-preserved
loop-to-preserved c =
    let inv = c.loop-to.invariant in
    record {
      so_many = omega (arith, c.in_ok-push.ensures.len);
      exact = marks_more (AreTogether c.args.vertices.now c.args.from) c.args.row.now c.loop-to.marks.items c.push.new.self.items c.are_together.result c.loop-to.to-index inv.so_many c.in_ok-push.ensures.items inv.exact c.are_together.ensures;
    }
