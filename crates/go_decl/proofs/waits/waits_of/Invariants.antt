use Rattle.std.proofs.Common.{◌≡◌, ◌++◌, drop}
use Rattle.go_decl.specs.Places.{placed_by}
use Rattle.go_decl.specs.Waits.{waits_of}
use Rattle.go_names.specs.Views.{declarations_view}
use Rattle.go_values.specs.Waiting.{awaited_under}
use Rattle.go_expr.specs.Read.{outcome_read}
use Rattle.go_decl.proofs.waits.waits_of.Given as goal

abbrev pub invariant-loop-declaration : goal.invariant-loop-declaration
invariant-loop-declaration g l =
    let found = waits_of (placed_by l.places.entries) (awaited_under (outcome_read (g.W.Ask.outcomes l.walks))) in
    l.waits.items ++ found (declarations_view (drop l.declaration-index l.declarations)) ≡ found (declarations_view l.declarations)
