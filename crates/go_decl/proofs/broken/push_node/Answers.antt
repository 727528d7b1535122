use Rattle.std.proofs.Common.{Bor, arith}
use Rattle.go_tree.specs.declared.node.Node.{Node}
use Rattle.go_tree.specs.Tree.{Tree, tree_of}
use Rattle.go_model.specs.Outcomes.Readings.{broken_spots}
use Rattle.go_expr.specs.Read.{outcome_read}
use Rattle.go_decl.proofs.ListLemmas.{drop-step, one_more}
use Rattle.go_decl.proofs.broken.push_node.Goals as goal

pub loop-inner-preserved : goal.loop-inner-preserved
loop-inner-preserved g c =
    let items = c.deref-inner-items.result.now in
    one_more (λ (t : Tree). broken_spots c.args.spec.now.file c.args.spec.now.told_at t (outcome_read (g.W.Ask.outcomes c.args.walks.now) t)) (λ (node : Bor Node). tree_of node.now) items c.loop-inner.inner-index c.inner-item.result c.loop-inner.found.items c.push_one.new.found.items _
    (drop-step items c.loop-inner.inner-index c.inner-item.result (omega arith) c.inner-item.is) c.in_ok-push_one.ensures c.loop-inner.invariant
