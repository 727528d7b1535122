use Rattle.std.proofs.Common.{sym, ◌∙◌, subst}
use Rattle.std.proofs.lemmas.Result.{IfOk-weaker}
use Rattle.go_graph.specs.Graph.{Graph, IsGraph, Path}
use Rattle.go_names.specs.Views.{declarations_view}
use Rattle.go_by_value.proofs.HoldLemmas.{holding_graph, marks_are_contained}
use Rattle.go_by_value.proofs.marks.contained_types.Goals as goal

pub cyclic_vertices-requires : goal.cyclic_vertices-requires
cyclic_vertices-requires g c =
    let same = c.deref.ensures.value ∙ c.in_ok-graph.ensures.graph in
    subst IsGraph (sym same) (holding_graph c.args.places.now.entries (declarations_view c.args.declarations.now) c.requires (g.F.Ask.headers c.args.judge.now))

pub returns-clause-exact : goal.returns-clause-exact
returns-clause-exact g c =
    let same = c.deref.ensures.value ∙ c.in_ok-graph.ensures.graph in
    IfOk-weaker c.cyclic_vertices.result _ _
    (λ marks exact. marks_are_contained c.args.places.now.entries (declarations_view c.args.declarations.now) c.requires (g.F.Ask.headers c.args.judge.now) marks.items
    (λ i. (λ e. subst (λ (g : Graph). Path g i i) same ((exact i).0 e), λ p. (exact i).1 (subst (λ (g : Graph). Path g i i) (sym same) p))))
    c.cyclic_vertices.ensures.exact
