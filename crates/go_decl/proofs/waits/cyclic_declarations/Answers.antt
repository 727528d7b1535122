use Rattle.std.proofs.Common.{sym, ◌∙◌, subst}
use Rattle.std.proofs.lemmas.Result.{IfOk-weaker}
use Rattle.go_graph.specs.Graph.{Graph, IsGraph, Path}
use Rattle.go_names.specs.Views.{declarations_view}
use Rattle.go_values.specs.Waiting.{awaited_under}
use Rattle.go_expr.specs.Read.{outcome_read}
use Rattle.go_decl.proofs.WaitLemmas.{marks_are_chains, read_graph, waits_graph}
use Rattle.go_decl.proofs.waits.cyclic_declarations.Goals as goal

pub cyclic_vertices-requires : goal.cyclic_vertices-requires
cyclic_vertices-requires g c =
    let same = c.deref.ensures.value ∙ c.in_ok-waits.ensures in
    subst IsGraph (sym same) (waits_graph c.args.places.now.entries (declarations_view c.args.declarations.now) c.requires (awaited_under (outcome_read (g.W.Ask.outcomes c.args.walks.now))))

pub returns-clause-exact : goal.returns-clause-exact
returns-clause-exact g c =
    let declarations = declarations_view c.args.declarations.now in
    let entries = c.args.places.now.entries in
    IfOk-weaker c.cyclic_vertices.result _ _
    (λ marks exact naming headers walked.
    let same = c.deref.ensures.value ∙ c.in_ok-waits.ensures ∙ read_graph entries naming headers declarations (g.W.Ask.outcomes c.args.walks.now) walked in
    marks_are_chains entries declarations c.requires naming headers marks.items
    (λ i. (λ e. subst (λ (g : Graph). Path g i i) same ((exact i).0 e), λ p. (exact i).1 (subst (λ (g : Graph). Path g i i) (sym same) p))))
    c.cyclic_vertices.ensures.exact
