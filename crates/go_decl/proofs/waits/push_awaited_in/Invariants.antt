use Rattle.std.proofs.Common.{◌≡◌, ℕ, ◌++◌, List, drop}
use Rattle.std.specs.List.{flat_map}
use Rattle.go_tree.specs.Tree.{Tree}
use Rattle.go_model.specs.Outcomes.Readings.{awaited_in}
use Rattle.go_names.specs.Views.{trees_at}
use Rattle.go_expr.specs.Read.{outcome_read}
use Rattle.go_decl.proofs.waits.push_awaited_in.Given as goal

-- what is pushed, with what the nodes left wait for, is what all of them wait for
abbrev pub invariant-loop-inner : goal.invariant-loop-inner
invariant-loop-inner g l =
    let awaited : Tree → List ℕ = λ node. awaited_in (outcome_read (g.W.Ask.outcomes l.walks) node) in
    l.numbers ++ flat_map awaited (trees_at (drop l.inner-index l.inner-items)) ≡ l.fn.numbers ++ flat_map awaited (trees_at l.inner-items)
