use Rattle.std.proofs.Common.{arith, get_or, subst, List, ℕ}
use Rattle.std.specs.Prelude.{Contains}
use Rattle.std.proofs.lemmas.List.Elements.{Contains-get_or}
use Rattle.go_graph.specs.Cycles.{OnCycle}
use Rattle.go_graph.proofs.CycleLemmas.{marks_more}
use Rattle.go_graph.proofs.cycles.search_row.Goals as goal

pub leads_to-requires-clause-within : goal.leads_to-requires-clause-within
leads_to-requires-clause-within c =
    let row = c.row_at-to-items.result.now in
    let b = get_or row c.loop-to.to-index 0 in
    c.requires c.args.from b (subst (λ (xs : List ℕ). Contains xs b) c.row_at-to-items.ensures (Contains-get_or row c.loop-to.to-index 0 (omega arith)))

pub loop-to-preserved : goal.loop-to-preserved
loop-to-preserved c =
    let inv = c.loop-to.invariant in
    record {
      so_many = omega (arith, c.in_ok-push.ensures.len);
      exact = marks_more (OnCycle c.args.graph.now c.args.from) c.row_at-to-items.result.now c.loop-to.marks.items c.push.new.self.items c.in_ok-leads_to.field-0 c.loop-to.to-index inv.so_many c.in_ok-push.ensures.items inv.exact c.in_ok-leads_to.ensures;
    }
