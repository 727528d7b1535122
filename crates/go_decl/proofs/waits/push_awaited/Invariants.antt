use Rattle.std.proofs.Common.{◌≡◌, ◌++◌, drop, map}
use Rattle.std.specs.List.{flat_map}
use Rattle.go_tree.specs.Tree.{tree_of}
use Rattle.go_values.specs.Waiting.{awaited_among}
use Rattle.go_expr.specs.Read.{outcome_read}
use Rattle.go_decl.proofs.waits.push_awaited.Given as goal

abbrev pub invariant-loop-node : goal.invariant-loop-node
invariant-loop-node g l =
    let awaited = awaited_among (outcome_read (g.W.Ask.outcomes l.walks)) in
    l.numbers ++ flat_map awaited (map tree_of (drop l.node-index l.nodes)) ≡ l.fn.numbers ++ flat_map awaited (map tree_of l.nodes)
