use Rattle.std.proofs.Common.{◌≡◌, ◌++◌, drop}
use Rattle.go_values.specs.Rules.{broken_cycles}
use Rattle.go_names.specs.Views.{declarations_view}
use Rattle.go_decl.specs.Places.{placed_by}
use Rattle.go_decl.specs.Waits.{marked_by}
use Rattle.go_decl.proofs.values.push_cycles.Given as goal

abbrev pub invariant-loop-declaration : goal.invariant-loop-declaration
invariant-loop-declaration l =
    let cyclic = marked_by (placed_by l.places.entries) l.cyclic in
    l.list.items ++ broken_cycles cyclic (declarations_view (drop l.declaration-index l.declarations)) ≡ l.fn.list.items ++ broken_cycles cyclic (declarations_view l.declarations)
