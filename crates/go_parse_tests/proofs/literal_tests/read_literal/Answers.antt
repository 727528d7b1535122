use Rattle.std.proofs.Common.{[], arith}
use Rattle.go_parse_x.proofs.ReadyLemmas.{ready_first}
use Rattle.go_parse_tests.proofs.literal_tests.read_literal.Goals as goal

pub parse_expr-requires : goal.parse_expr-requires
parse_expr-requires c =
    record { ready = λ unspent. ([], (c.new-cursor.result.number, ready_first c.new-cursor.result c.new-pending.result c.new-cursor.result.number c.new-pending.ensures.anew c.new-pending.ensures.piece.1 (omega arith))) }

pub rest_of_literal-requires-clause-begun : goal.rest_of_literal-requires-clause-begun
rest_of_literal-requires-clause-begun c =
    let ready = ready_first c.new-cursor.result c.new-pending.result c.new-cursor.result.number c.new-pending.ensures.anew c.new-pending.ensures.piece.1 (omega arith) in
    let z = (rw c.in-Ok-Block.field-0-is at c.in-Ok-Block.ensures.answer) c.new-cursor.ensures.fault [] c.new-cursor.result.number ready in
    z.says.1

pub rest_of_literal-requires-clause-awaits : goal.rest_of_literal-requires-clause-awaits
rest_of_literal-requires-clause-awaits c =
    let ready = ready_first c.new-cursor.result c.new-pending.result c.new-cursor.result.number c.new-pending.ensures.anew c.new-pending.ensures.piece.1 (omega arith) in
    let z = (rw c.in-Ok-Block.field-0-is at c.in-Ok-Block.ensures.answer) c.new-cursor.ensures.fault [] c.new-cursor.result.number ready in
    z.says.2

pub rest_of_literal-requires-clause-block : goal.rest_of_literal-requires-clause-block
rest_of_literal-requires-clause-block c =
    let ready = ready_first c.new-cursor.result c.new-pending.result c.new-cursor.result.number c.new-pending.ensures.anew c.new-pending.ensures.piece.1 (omega arith) in
    let z = (rw c.in-Ok-Block.field-0-is at c.in-Ok-Block.ensures.answer) c.new-cursor.ensures.fault [] c.new-cursor.result.number ready in
    let a = z.says.3 in
    (z.all, (c.new-cursor.result.number, rw c.in-Ok-Block.ensures.text a))
