use Rattle.std.proofs.Common.{◌≢◌, rules}
use Rattle.go_tree.specs.declared.token.TokenKind.TheVariants.{End}
use Rattle.go_parse_x.proofs.AheadLemmas.{none_ahead, further, none_further}
use Rattle.go_parse_x.proofs.cursor.+token_ahead.Goals as goal

pub returns-in-Err-clause-none : goal.returns-in-Err-clause-none
returns-in-Err-clause-none t c = none_ahead c.args.bytes.now c.args.at c.args.last c.args.ahead c.in-Err.lex (c.in-Err.ensures.no_token, c.in-Err.ensures.rule)

pub returns-else-eq-clause-token : goal.returns-else-eq-clause-token
returns-else-eq-clause-token t c =
    let other : c.in-Ok.token.kind ≢ End = search rules in
    further c.args.bytes.now c.args.at c.args.last c.args.ahead c.in-Ok.token c.token_ahead.result c.in-Ok.ensures.token other c.if-ahead-eq0.false c.token_ahead.ensures.token

pub returns-else-eq-clause-none : goal.returns-else-eq-clause-none
returns-else-eq-clause-none t c =
    let other : c.in-Ok.token.kind ≢ End = search rules in
    none_further c.args.bytes.now c.args.at c.args.last c.args.ahead c.in-Ok.token c.token_ahead.result c.in-Ok.ensures.token other c.if-ahead-eq0.false c.token_ahead.ensures.none
