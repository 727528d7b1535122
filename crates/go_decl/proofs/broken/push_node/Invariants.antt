use Rattle.std.proofs.Common.{◌≡◌, ◌++◌, List, drop}
use Rattle.std.specs.List.{flat_map}
use Rattle.go_base.specs.declared.rule.Broken.{Broken}
use Rattle.go_tree.specs.Tree.{Tree}
use Rattle.go_model.specs.Outcomes.Readings.{broken_spots}
use Rattle.go_names.specs.Views.{trees_at}
use Rattle.go_expr.specs.Read.{outcome_read}
use Rattle.go_decl.proofs.broken.push_node.Given as goal

-- what is pushed, with what the nodes left break, is what all of them break
abbrev pub invariant-loop-inner : goal.invariant-loop-inner
invariant-loop-inner g l =
    let breaks : Tree → List Broken = λ node. broken_spots l.spec.file l.spec.told_at node (outcome_read (g.W.Ask.outcomes l.walks) node) in
    l.found.items ++ flat_map breaks (trees_at (drop l.inner-index l.inner-items)) ≡ l.fn.found.items ++ flat_map breaks (trees_at l.inner-items)
