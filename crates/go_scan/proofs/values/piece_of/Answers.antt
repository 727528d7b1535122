use Rattle.std.proofs.Common.{◌≡◌, ◌⊎◌, true, slice_index, sym, ◌∙◌, ap, arith, inl, inr}
use Rattle.go_tree.specs.Lexical.Literals.{is_valid_code_point}
use Rattle.go_tree.specs.Lexical.LiteralValues.{escape_value}
use Rattle.go_scan.proofs.UnescapeLemmas.{code_escape, byte_escape, out_of_range}
use Rattle.go_scan.proofs.values.piece_of.Goals.{then-e-eq117-via-then-e-eq117, then-e-eq117-via-else-e-eq117+then-e-eq85}
use Rattle.go_scan.proofs.values.piece_of.Goals as goal

pub returns-in-None : goal.returns-in-None
returns-in-None c =
    let m : (slice_index c.args.text.now 0 ≡ 117) ⊎ (slice_index c.args.text.now 0 ≡ 85) = elim c.then-e-eq117.branch [ then-e-eq117-via-then-e-eq117 w ↦ inl (sym c.byte_at-e.ensures ∙ w.if-e-eq117.true) | then-e-eq117-via-else-e-eq117+then-e-eq85 w ↦ inr (sym c.byte_at-e.ensures ∙ w.if-e-eq85.true) ] in
    let v : is_valid_code_point (escape_value c.args.text.now) ≡ true = code_escape c.requires.quote c.args.text.now c.requires.is_quote c.requires.is m in
    let v2 : is_valid_code_point c.escape_value-value.result ≡ true = ap is_valid_code_point c.escape_value-value.ensures ∙ v in
    absurd (out_of_range c.escape_value-value.result v2 c.in-None.ensures.cases)

pub overflow_cast-result : goal.overflow_cast-result
overflow_cast-result c =
    let b = byte_escape c.requires.quote c.args.text.now c.requires.is_quote c.requires.is (λ e. c.if-e-eq117.false (c.byte_at-e.ensures ∙ e)) (λ e. c.if-e-eq85.false (c.byte_at-e.ensures ∙ e)) in
    let v = c.escape_value-value.ensures in
    omega arith
