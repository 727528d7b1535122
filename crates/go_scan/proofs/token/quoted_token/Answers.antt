use Rattle.std.proofs.Common.{slice_index, sym, ◌∙◌, arith}
use Rattle.go_scan.proofs.LongestLemmas.{rune_is_longest, interpreted_is_longest, raw_is_longest, no_quoted_token, rune_alone, interpreted_alone, raw_alone, stuck_blamed, third_quote}
use Rattle.go_scan.proofs.token.quoted_token.Goals as goal

pub returns-in-Ok-clause-token : goal.returns-in-Ok-clause-token
returns-in-Ok-clause-token c = rune_is_longest c.args.bytes.now c.args.from c.in-Ok.to (sym c.byte_at-quote.ensures ∙ c.if-quote-eq39.true) c.in-Ok.ensures.whole c.in-Ok.ensures.within.1

pub returns-in-Err-clause-none : goal.returns-in-Err-clause-none
returns-in-Err-clause-none c = no_quoted_token c.args.bytes.now c.args.from c.requires (λ n q. c.in-Err.ensures.none n (rune_alone c.args.bytes.now c.args.from n (sym c.byte_at-quote.ensures ∙ c.if-quote-eq39.true) q))

pub returns-in-Err-clause-blamed : goal.returns-in-Err-clause-blamed
returns-in-Err-clause-blamed c = stuck_blamed c.args.bytes.now c.args.from c.in-Err.stuck.at 38 (sym c.byte_at-quote.ensures ∙ c.if-quote-eq39.true) (omega arith) c.in-Err.ensures.stuck

pub returns-in-Ok-interpreted_lit-clause-token : goal.returns-in-Ok-interpreted_lit-clause-token
returns-in-Ok-interpreted_lit-clause-token c = interpreted_is_longest c.args.bytes.now c.args.from c.in-Ok-interpreted_lit.to (sym c.byte_at-quote.ensures ∙ c.if-quote-eq34.true) c.in-Ok-interpreted_lit.ensures.whole c.in-Ok-interpreted_lit.ensures.within.1

pub returns-in-Err-interpreted_lit-clause-none : goal.returns-in-Err-interpreted_lit-clause-none
returns-in-Err-interpreted_lit-clause-none c = no_quoted_token c.args.bytes.now c.args.from c.requires (λ n q. c.in-Err-interpreted_lit.ensures.none n (interpreted_alone c.args.bytes.now c.args.from n (sym c.byte_at-quote.ensures ∙ c.if-quote-eq34.true) q))

pub returns-in-Err-interpreted_lit-clause-blamed : goal.returns-in-Err-interpreted_lit-clause-blamed
returns-in-Err-interpreted_lit-clause-blamed c = stuck_blamed c.args.bytes.now c.args.from c.in-Err-interpreted_lit.stuck.at 33 (sym c.byte_at-quote.ensures ∙ c.if-quote-eq34.true) (omega arith) c.in-Err-interpreted_lit.ensures.stuck

pub returns-in-Ok-raw_lit-clause-token : goal.returns-in-Ok-raw_lit-clause-token
returns-in-Ok-raw_lit-clause-token c = raw_is_longest c.args.bytes.now c.args.from c.in-Ok-raw_lit.to (third_quote (slice_index c.args.bytes.now c.args.from) c.requires (λ e. c.if-quote-eq39.false (c.byte_at-quote.ensures ∙ e)) (λ e. c.if-quote-eq34.false (c.byte_at-quote.ensures ∙ e))) c.in-Ok-raw_lit.ensures.whole c.in-Ok-raw_lit.ensures.within.1

pub returns-in-Err-raw_lit-clause-none : goal.returns-in-Err-raw_lit-clause-none
returns-in-Err-raw_lit-clause-none c = no_quoted_token c.args.bytes.now c.args.from c.requires (λ n q. c.in-Err-raw_lit.ensures.none n (raw_alone c.args.bytes.now c.args.from n (third_quote (slice_index c.args.bytes.now c.args.from) c.requires (λ e. c.if-quote-eq39.false (c.byte_at-quote.ensures ∙ e)) (λ e. c.if-quote-eq34.false (c.byte_at-quote.ensures ∙ e))) q))

pub returns-in-Err-raw_lit-clause-blamed : goal.returns-in-Err-raw_lit-clause-blamed
returns-in-Err-raw_lit-clause-blamed c = stuck_blamed c.args.bytes.now c.args.from c.in-Err-raw_lit.stuck.at 95 (third_quote (slice_index c.args.bytes.now c.args.from) c.requires (λ e. c.if-quote-eq39.false (c.byte_at-quote.ensures ∙ e)) (λ e. c.if-quote-eq34.false (c.byte_at-quote.ensures ∙ e))) (omega arith) c.in-Err-raw_lit.ensures.stuck
