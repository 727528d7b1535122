use Rattle.std.proofs.Common.{arith}
use Rattle.go_tree.proofs.TreeLemmas.{part_within}
use Rattle.go_scope.proofs.iotas.+add_iotas.Goals as goal

pub add_in_parts-add_iotas-requires : goal.add_in_parts-add_iotas-requires
add_in_parts-add_iotas-requires t c =
    let within = part_within c.args.parts.now c.loop-n.n c.index-parts-n.result (omega arith) c.index-parts-n.is in
    omega (arith, within, c.decreases)
