use Rattle.std.proofs.Common.{arith}
use Rattle.go_tree.proofs.TreeLemmas.{part_within}
use Rattle.go_form.proofs.unbuilt.+unbuilt.Goals as goal

pub each-unbuilt_as-requires : goal.each-unbuilt_as-requires
each-unbuilt_as-requires t c =
    let within = part_within c.args.nodes.now c.loop-node.node-index c.node-item.result (omega arith) c.node-item.is in
    (omega (arith, within, c.decreases), tt)
