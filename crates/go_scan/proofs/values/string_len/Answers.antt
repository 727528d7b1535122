use Rattle.std.proofs.Common.{length, sym, ◌∙◌, ap, arith}
use Rattle.go_tree.specs.Lexical.LiteralValues.{without_returns}
use Rattle.go_scan.proofs.StringLemmas.{string_within, interpreted_escapes, interpreted_value, raw_value}
use Rattle.go_scan.proofs.values.string_len.Goals as goal

pub part-requires-clause-before : goal.part-requires-clause-before
part-requires-clause-before c = let w = string_within c.args.bytes.now c.args.from c.args.to c.requires in omega (arith, w.0)

pub unescaped_len-requires : goal.unescaped_len-requires
unescaped_len-requires c = interpreted_escapes c.args.bytes.now c.args.from c.args.to c.requires (λ e. c.if-byte_at-eq96.false (c.byte_at.ensures ∙ e))

pub returns-then-byte_at-eq96 : goal.returns-then-byte_at-eq96
returns-then-byte_at-eq96 c = c.len_without_returns.ensures ∙ ap (λ t. length (without_returns t)) c.part.ensures ∙ sym (ap length (raw_value c.args.bytes.now c.args.from c.args.to c.requires (sym c.byte_at.ensures ∙ c.if-byte_at-eq96.true)))

pub returns-else-byte_at-eq96 : goal.returns-else-byte_at-eq96
returns-else-byte_at-eq96 c = c.unescaped_len.ensures ∙ sym (ap length (interpreted_value c.args.bytes.now c.args.from c.args.to c.requires (λ e. c.if-byte_at-eq96.false (c.byte_at.ensures ∙ e))))
