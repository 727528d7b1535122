use Rattle.std.proofs.Common.{◌++◌}
use Rattle.go_parse_tests.proofs.literal_tests.hand_in.Goals as goal

pub parse_expr-requires : goal.parse_expr-requires
parse_expr-requires c =
    let r = c.requires.read in
    record { ready = λ unspent. (r.0 ++ r.1.1.tokens, (r.1.0, c.in-Ok.ensures.ready r.0 r.1.0 r.1.1)) }
