use Rattle.std.proofs.Common.{arith}
use Rattle.go_tree.proofs.TreeLemmas.{part_within}
use Rattle.go_cycles.proofs.leading.+push_names_in.Goals as goal

pub push_names_in_each-push_names_in-requires : goal.push_names_in_each-push_names_in-requires
push_names_in_each-push_names_in-requires t c =
    let within = part_within c.args.nodes.now c.loop-node.node-index c.node-item.result (omega arith) c.node-item.is in
    (omega (arith, within, c.decreases), tt)
