use Rattle.std.proofs.Common.{◌≡◌, ◌+◌, ◌*◌, ◌/◌, ℕ, sym, ◌∙◌, ap}
use Rattle.go_scan.specs.Escapes.{is_value_of}
use Rattle.go_scan.proofs.ReadLemmas.{reads_more, reads_whole, no_digit, no_value}
use Rattle.go_scan.proofs.escapes.read_digits.Goals as goal

pub returns-then-not-is_digit-clause-stops : goal.returns-then-not-is_digit-clause-stops
returns-then-not-is_digit-clause-stops c =
    no_digit c.args.kind c.args.bytes.now c.args.from c.loop-unit.at c.loop-unit.unit c.loop-unit.least c.byte_at-byte.result c.loop-unit.invariant c.loop-unit-test.true c.byte_at-byte.ensures (sym c.is_digit.ensures ∙ c.if-not-is_digit.true)

same_next : (least d e unit b k : ℕ) → d ≡ e → b ≡ k → least + d * (unit / b) ≡ least + e * (unit / k)
same_next least d e unit b k p q = ap (λ x. least + x * (unit / b)) p ∙ ap (λ x. least + e * (unit / x)) q

pub returns-then-not-is_value-clause-stops : goal.returns-then-not-is_value-clause-stops
returns-then-not-is_value-clause-stops c =
    let next = same_next c.loop-unit.least _ _ c.loop-unit.unit _ _ (c.from.ensures ∙ c.digit_value.ensures) c.base-unit.ensures in
    no_value c.args.kind c.args.bytes.now c.args.from c.loop-unit.at c.loop-unit.unit c.loop-unit.least c.byte_at-byte.result c.loop-unit.invariant c.loop-unit-test.true c.byte_at-byte.ensures (sym c.is_digit.ensures ∙ c.if-not-is_digit.false)
    (sym (ap (λ x. is_value_of c.args.kind x) next) ∙ sym c.is_value.ensures ∙ c.if-not-is_value.true)

pub loop-unit-preserved : goal.loop-unit-preserved
loop-unit-preserved c =
    let next = same_next c.loop-unit.least _ _ c.loop-unit.unit _ _ (c.from.ensures ∙ c.digit_value.ensures) c.base-unit.ensures in
    let more = reads_more c.args.kind c.args.bytes.now c.args.from c.loop-unit.at c.loop-unit.unit c.loop-unit.least c.byte_at-byte.result c.loop-unit.invariant c.loop-unit-test.true c.byte_at-byte.ensures (sym c.is_digit.ensures ∙ c.if-not-is_digit.false)
    (sym (ap (λ x. is_value_of c.args.kind x) next) ∙ sym c.is_value.ensures ∙ c.if-not-is_value.false) in
    rw (c.base-unit.ensures, c.from.ensures, c.digit_value.ensures) more

pub returns-clause-whole : goal.returns-clause-whole
returns-clause-whole c = (reads_whole c.args.kind c.args.bytes.now c.args.from c.loop-unit.at c.loop-unit.unit c.loop-unit.least c.loop-unit.invariant c.loop-unit-test.false).0
