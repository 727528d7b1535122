use Rattle.std.proofs.Common.{sym, ◌∙◌, subst}
use Rattle.std.proofs.lemmas.Result.{IfOk-weaker}
use Rattle.go_graph.specs.Graph.{Graph, IsGraph, Path}
use Rattle.go_names.specs.Views.{declarations_view}
use Rattle.go_cycles.specs.declared.leading.Way.TheVariants.{Embedding}
use Rattle.go_cycles.specs.Shapes.{denoted_by}
use Rattle.go_cycles.proofs.GraphLemmas.{marks_are_paths, places_graph}
use Rattle.go_cycles.proofs.marks.embedded_types.Goals as goal

pub cyclic_vertices-requires : goal.cyclic_vertices-requires
cyclic_vertices-requires c =
    let same = c.deref.ensures.value ∙ c.in_ok-graph.ensures in
    subst IsGraph (sym same) (places_graph (denoted_by c.args.scopes.now) c.args.places.now.entries (declarations_view c.args.types.now) c.requires Embedding)

pub returns : goal.returns
returns c =
    let same = c.deref.ensures.value ∙ c.in_ok-graph.ensures in
    IfOk-weaker c.cyclic_vertices.result _ _
    (λ marks exact. marks_are_paths (denoted_by c.args.scopes.now) c.args.places.now.entries (declarations_view c.args.types.now) c.requires Embedding marks.items
    (λ i. (λ e. subst (λ (g : Graph). Path g i i) same ((exact i).0 e), λ p. (exact i).1 (subst (λ (g : Graph). Path g i i) (sym same) p))))
    c.cyclic_vertices.ensures.exact
