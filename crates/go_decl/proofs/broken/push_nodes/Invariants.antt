use Rattle.std.proofs.Common.{◌≡◌, ◌++◌, drop, map}
use Rattle.std.specs.List.{flat_map}
use Rattle.go_tree.specs.Tree.{tree_of}
use Rattle.go_expr.specs.Read.{outcome_read}
use Rattle.go_values.specs.Rules.{broken_by}
use Rattle.go_decl.proofs.broken.push_nodes.Given as goal

abbrev pub invariant-loop-node : goal.invariant-loop-node
invariant-loop-node g l =
    let breaks = broken_by (outcome_read (g.W.Ask.outcomes l.walks)) l.spec.file l.spec.told_at in
    l.found.items ++ flat_map breaks (map tree_of (drop l.node-index l.nodes)) ≡ l.fn.found.items ++ flat_map breaks (map tree_of l.nodes)
