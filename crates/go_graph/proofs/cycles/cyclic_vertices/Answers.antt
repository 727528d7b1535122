use Rattle.std.proofs.Common.{◌<◌, Bool, Contains, List, Vec, arith, length, subst, sym, true}
use Rattle.std.specs.Prelude.{◌↔◌, ◌≡◌}
use Rattle.std.specs.Global.{Global}
use Rattle.go_graph.specs.Cycles.{MarksCycles, MarksEach, OnCycle, marks_of}
use Rattle.go_graph.specs.Graph.{row_at}
use Rattle.go_graph.proofs.CycleLemmas.{exact_outside, marks_at, marks_length, vertices_more}
use Rattle.go_graph.proofs.cycles.cyclic_vertices.Goals as goal

pub loop-row-preserved : goal.loop-row-preserved
loop-row-preserved c =
    let g = c.args.graph.now in
    let rows = c.deref-row-items.result.now in
    let v = c.loop-row.row-index in
    let row = c.row-item.result in
    let inv = c.loop-row.invariant in
    let lt : v < length g = omega (arith, marks_length g c.in_ok-rows.rows.items c.in_ok-rows.ensures) in
    let cycles = subst (λ (rs : List (Vec Bool Global)). MarksCycles g (marks_of rs)) (sym c.deref-row-items.ensures.value) c.in_ok-rows.ensures in
    let marks = subst (MarksEach (OnCycle g v) (row_at g v)) (marks_at rows v row (omega arith) c.row-item.is) (cycles.each v lt) in
    let has = subst (λ (ms : List Bool). (c.has_mark.result ≡ true) ↔ Contains ms true) c.deref.ensures.value c.has_mark.ensures in
    record {
      so_many = omega (arith, c.in_ok-push.ensures.len);
      exact = vertices_more g c.loop-row.marks.items c.push.new.self.items c.has_mark.result row.items v inv.so_many c.in_ok-push.ensures.items inv.exact has marks;
    }

pub returns-clause-exact : goal.returns-clause-exact
returns-clause-exact c =
    let g = c.args.graph.now in
    let lengths = marks_length g c.in_ok-rows.rows.items c.in_ok-rows.ensures in
    exact_outside g c.loop-row.marks.items (omega (arith, lengths)) (λ v lt. c.loop-row.invariant.exact v (omega (arith, lengths)))
