use Rattle.std.proofs.Common.{arith}
use Rattle.go_tree.proofs.TreeLemmas.{part_within}
use Rattle.go_rows.proofs.shapes.+put_span.Goals as goal

pub put_spans-put_span-requires : goal.put_spans-put_span-requires
put_spans-put_span-requires t c =
    let within = part_within c.args.nodes.now c.loop-node.node-index c.node-item.result (omega arith) c.node-item.is in
    omega (arith, within, c.decreases)
