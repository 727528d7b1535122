use Rattle.std.proofs.Common.{arith}
use Rattle.go_tree.proofs.TreeLemmas.{part_within}
use Rattle.go_parse_x.proofs.type_tree.+is_type.Goals as goal

pub all_types-is_type-requires : goal.all_types-is_type-requires
all_types-is_type-requires t c =
    let within = part_within c.args.nodes.now c.loop-node.node-index c.node-item.result (omega arith) c.node-item.is in
    (omega (arith, within, c.decreases), tt)
