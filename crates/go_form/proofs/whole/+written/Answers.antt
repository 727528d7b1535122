use Rattle.std.proofs.Common.{arith}
use Rattle.go_tree.proofs.TreeLemmas.{part_within}
use Rattle.go_form.proofs.whole.+written.Goals as goal

pub broken_among-broken_in-requires : goal.broken_among-broken_in-requires
broken_among-broken_in-requires t c =
    let within = part_within c.args.nodes.now c.loop-node.node-index c.node-item.result (omega arith) c.node-item.is in
    (omega (arith, within, c.decreases), tt)
