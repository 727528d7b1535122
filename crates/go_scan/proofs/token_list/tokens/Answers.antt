use Rattle.std.proofs.Common.{◌≢◌, rules}
use Rattle.go_tree.specs.declared.token.TokenKind.TheVariants.{End}
use Rattle.go_scan.proofs.ScanLemmas.{one_taken, ends_early}
use Rattle.go_scan.proofs.token_list.tokens.Goals as goal

pub returns-in-Err-clause-none : goal.returns-in-Err-clause-none
returns-in-Err-clause-none c = ends_early c.args.bytes.now c.loop-token.at c.loop-token.last c.loop-token.tokens.items c.in-Err.lex c.loop-token.invariant.taken (c.in-Err.ensures.no_token, c.in-Err.ensures.rule)

pub loop-token-preserved : goal.loop-token-preserved
loop-token-preserved c =
    let other : c.in-Ok.token.kind ≢ End = search rules in
    record {
      within = c.in-Ok.ensures.within.2;
      taken = rw c.in_ok-push.ensures.items (one_taken c.args.bytes.now c.loop-token.at c.loop-token.last c.loop-token.tokens.items c.in-Ok.token c.loop-token.invariant.taken c.in-Ok.ensures.token other);
    }
