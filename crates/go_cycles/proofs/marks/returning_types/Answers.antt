use Rattle.std.proofs.Common.{sym, ◌∙◌, subst}
use Rattle.std.proofs.lemmas.Result.{IfOk-weaker}
use Rattle.go_graph.specs.Graph.{Graph, HasEdge, IsGraph}
use Rattle.go_names.specs.Views.{declarations_view}
use Rattle.go_cycles.specs.declared.leading.Way.TheVariants.{Naming}
use Rattle.go_cycles.specs.Leading.{GoesOn}
use Rattle.go_cycles.specs.Shapes.{denoted_by}
use Rattle.go_cycles.proofs.GraphLemmas.{marks_lead_on, places_graph}
use Rattle.go_cycles.proofs.marks.returning_types.Goals as goal

pub returning-requires : goal.returning-requires
returning-requires c =
    let same = c.deref.ensures.value ∙ c.in_ok-graph.ensures in
    subst IsGraph (sym same) (places_graph (denoted_by c.args.scopes.now) c.args.places.now.entries (declarations_view c.args.types.now) c.requires Naming)

pub returns : goal.returns
returns c =
    let same = c.deref.ensures.value ∙ c.in_ok-graph.ensures in
    IfOk-weaker c.returning.result _ _
    (λ marks exact. marks_lead_on (denoted_by c.args.scopes.now) c.args.places.now.entries (declarations_view c.args.types.now) c.requires Naming marks.items
    (λ i. (λ e n. subst (λ (g : Graph). GoesOn (HasEdge g) n i) same ((exact i).0 e n), λ on. (exact i).1 (λ n. subst (λ (g : Graph). GoesOn (HasEdge g) n i) (sym same) (on n)))))
    c.returning.ensures
