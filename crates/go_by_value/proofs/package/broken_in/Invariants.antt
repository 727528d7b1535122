use Rattle.std.proofs.Common.{◌≡◌, ◌++◌, drop}
use Rattle.go_names.specs.Views.{declarations_view}
use Rattle.go_cycles.specs.Places.{marked_by, placed_by}
use Rattle.go_by_value.specs.Holding.{broken_in}
use Rattle.go_by_value.proofs.package.broken_in.Given as goal

abbrev pub invariant-loop-declaration : goal.invariant-loop-declaration
invariant-loop-declaration l =
    let broken = broken_in (marked_by (placed_by l.places.entries) l.marks) in
    l.found.items ++ broken (declarations_view (drop l.declaration-index l.declarations)) ≡ broken (declarations_view l.declarations)
