use Rattle.std.proofs.Common.{subst, sym, ◌∙◌}
use Rattle.go_graph.specs.Certificate.{AreComponents}
use Rattle.go_graph.proofs.ComponentLemmas.{confirmed_components}
use Rattle.go_graph.proofs.cycles.cyclic_edges.Goals as goal

pub by_component-requires-clause-components : goal.by_component-requires-clause-components
by_component-requires-clause-components c =
    let same = c.deref.ensures.value ∙ sym c.deref-then-is_confirmed.ensures.value in
    subst (AreComponents c.args.graph.now) same (confirmed_components c.args.graph.now _ _ (c.is_confirmed.ensures.0 c.if-is_confirmed.true))
