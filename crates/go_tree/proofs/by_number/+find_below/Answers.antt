use Rattle.std.proofs.Common.{arith}
use Rattle.go_tree.proofs.TreeLemmas.{part_within}
use Rattle.go_tree.proofs.by_number.+find_below.Goals as goal

pub find_among-find_below-requires : goal.find_among-find_below-requires
find_among-find_below-requires t c =
    let within = part_within c.args.nodes.now c.loop-node.node-index c.node-item.result (omega arith) c.node-item.is in
    (omega (arith, within, c.decreases), tt)
