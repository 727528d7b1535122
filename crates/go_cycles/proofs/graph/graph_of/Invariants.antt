use Rattle.std.proofs.Common.{◌≡◌, ◌++◌, drop}
use Rattle.go_names.specs.Views.{declarations_view}
use Rattle.go_cycles.specs.Places.{graph_of, placed_by}
use Rattle.go_cycles.specs.Shapes.{denoted_by}
use Rattle.go_cycles.proofs.graph.graph_of.Given as goal

abbrev pub invariant-loop-declaration : goal.invariant-loop-declaration
invariant-loop-declaration l =
    let rows = graph_of (denoted_by l.scopes) (placed_by l.places.entries) l.way in
    l.graph.items ++ rows (declarations_view (drop l.declaration-index l.declarations)) ≡ rows (declarations_view l.declarations)
