use Rattle.std.proofs.Common.{[], arith}
use Rattle.go_parse_x.proofs.ReadyLemmas.{ready_first}
use Rattle.go_parse_tests.proofs.piece_tests.read_on.Goals as goal

pub parse_expr-requires : goal.parse_expr-requires
parse_expr-requires c =
    record { ready = λ unspent. ([], (c.new-cursor.result.number, ready_first c.new-cursor.result c.new-pending.result c.new-cursor.result.number c.new-pending.ensures.anew c.new-pending.ensures.piece.1 (omega arith))) }

-- after the answer Block the block is awaited
pub free-left-requires : goal.free-left-requires
free-left-requires c =
    let ready = ready_first c.new-cursor.result c.new-pending.result c.new-cursor.result.number c.new-pending.ensures.anew c.new-pending.ensures.piece.1 (omega arith) in
    let z = (rw c.in-Ok-Block.field-0-is at c.in-Ok-Block.ensures.answer) c.new-cursor.ensures.fault [] c.new-cursor.result.number ready in
    z.says.2
