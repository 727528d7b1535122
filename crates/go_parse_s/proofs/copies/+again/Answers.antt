use Rattle.std.proofs.Common.{arith}
use Rattle.go_tree.proofs.TreeLemmas.{part_within}
use Rattle.go_parse_s.proofs.copies.+again.Goals as goal

pub all_again-again-requires : goal.all_again-again-requires
all_again-again-requires t c =
    let within = part_within c.args.nodes.now c.loop-node.node-index c.node-item.result (omega arith) c.node-item.is in
    (omega (arith, within, c.decreases), tt)
