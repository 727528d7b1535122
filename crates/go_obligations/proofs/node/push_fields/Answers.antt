use Rattle.std.proofs.Common.{Bor, ◌≤◌, ◌++◌, min, length, map, arith}
use Rattle.go_tree.specs.declared.node.Node.{Node}
use Rattle.go_tree.specs.Tree.{tree_of}
use Rattle.go_names.specs.Views.{trees_at}
use Rattle.go_obligations.specs.Owed.{owed_by_fields, owed_view}
use Rattle.go_obligations.specs.Read.{outcome_read}
use Rattle.go_obligations.proofs.OwedLemmas.{fields_done}
use Rattle.go_obligations.proofs.node.push_fields.Goals as goal

pub returns-clause-owed : goal.returns-clause-owed
returns-clause-owed g c =
    let fields = c.args.fields.now in
    let types = c.args.types.now in
    let behind : min (length fields) (length types) ≤ c.loop-place.place = omega arith in
    let tree = g.W.Ask.tree c.args.walks.now in
    let read = outcome_read (g.W.Ask.outcomes c.args.walks.now) in
    let spec = c.args.spec.now in
    fields_done read spec.file spec.told_at tree_of (λ (node : Bor Node). tree_of node.now) fields types c.loop-place.place (owed_view tree c.loop-place.owed.items)
    (owed_view tree c.args.owed.now.items ++ owed_by_fields read spec.file spec.told_at (map tree_of fields) (trees_at types)) behind c.loop-place.invariant.owed
