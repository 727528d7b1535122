use Rattle.std.proofs.Common.{arith}
use Rattle.go_tree.proofs.TreeLemmas.{part_within}
use Rattle.go_parse_tests.proofs.piece_tests.+put.Goals as goal

pub put_parts-put-requires : goal.put_parts-put-requires
put_parts-put-requires t c =
    let within = part_within c.args.parts.now c.loop-part.part-index c.part-item.result (omega arith) c.part-item.is in
    omega (arith, within, c.decreases)
