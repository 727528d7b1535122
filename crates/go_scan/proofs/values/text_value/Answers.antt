use Rattle.std.proofs.Common.{sym, ◌∙◌, ap}
use Rattle.go_tree.specs.Lexical.LiteralValues.{without_returns}
use Rattle.go_scan.proofs.StringTextLemmas.{interpreted_text, raw_text_value}
use Rattle.go_scan.proofs.values.text_value.Goals as goal

pub unescape-requires : goal.unescape-requires
unescape-requires c = (interpreted_text c.args.text.now c.inside-inside.result.now c.requires (λ e. c.if-byte_at-eq96.false (c.byte_at.ensures ∙ e)) c.inside-inside.ensures).escapes

pub returns-then-byte_at-eq96 : goal.returns-then-byte_at-eq96
returns-then-byte_at-eq96 c =
    c.new.ensures ∙ c.in_ok-value.ensures ∙ ap without_returns c.inside-inside.ensures
    ∙ raw_text_value c.args.text.now (sym c.byte_at.ensures ∙ c.if-byte_at-eq96.true)

pub returns : goal.returns
returns c =
    c.new-2.ensures ∙ c.in_ok-value-2.ensures
    ∙ (interpreted_text c.args.text.now c.inside-inside.result.now c.requires (λ e. c.if-byte_at-eq96.false (c.byte_at.ensures ∙ e)) c.inside-inside.ensures).value
