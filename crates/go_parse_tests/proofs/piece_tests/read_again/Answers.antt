use Rattle.std.proofs.Common.{[], arith}
use Rattle.go_parse_x.proofs.ReadyLemmas.{ready_first}
use Rattle.go_parse_tests.proofs.piece_tests.read_again.Goals as goal

pub parse_expr-requires : goal.parse_expr-requires
parse_expr-requires c =
    record { ready = λ unspent. ([], (c.new-cursor.result.number, ready_first c.new-cursor.result c.new-pending.result c.new-cursor.result.number c.new-pending.ensures.anew c.new-pending.ensures.piece.1 (omega arith))) }
