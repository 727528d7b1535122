use Rattle.std.proofs.Common.{◌∙◌}
use Rattle.go_scan.proofs.QuotedLemmas.{rune_no_character, rune_unclosed, rune_unclosed_none}
use Rattle.go_scan.proofs.quoted.rune_lit.Goals as goal

pub returns-in-Err-clause-stuck : goal.returns-in-Err-clause-stuck
returns-in-Err-clause-stuck c = rune_no_character c.args.bytes.now c.args.from c.in-Err.at c.requires c.in-Err.ensures.none

pub returns-else-byte_at-eq39-clause-stuck : goal.returns-else-byte_at-eq39-clause-stuck
returns-else-byte_at-eq39-clause-stuck c = rune_unclosed c.args.bytes.now c.args.from c.in-Ok.close c.requires c.in-Ok.ensures.whole

pub returns-else-byte_at-eq39-clause-none : goal.returns-else-byte_at-eq39-clause-none
returns-else-byte_at-eq39-clause-none c = λ to lit. rune_unclosed_none c.args.bytes.now c.args.from c.in-Ok.close to c.in-Ok.ensures.whole (λ e. c.if-byte_at-eq39.false (c.byte_at.ensures ∙ e)) lit
