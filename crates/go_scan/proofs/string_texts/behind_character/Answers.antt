use Rattle.std.proofs.Common.{◌≡◌, ◌≤◌, ◌<◌, false, length, slice_range, slice_index, IfOk, IfErr, IfSome, IfNone, ℕ, ◌+◌, List, sym, ◌∙◌, subst, arith, Result, Ok, Err, Option}
use Rattle.std.specs.Result.{result_ok}
use Rattle.go_scan.specs.Escapes.{IsEscape, Stops}
use Rattle.go_scan.specs.StringTexts.{are_escapes}
use Rattle.go_scan.proofs.StringTextLemmas.{over_escape, over_none}
use Rattle.go_scan.proofs.string_texts.behind_character.Goals as goal

escape_some : (bytes : List ℕ) (at : ℕ) (r : Result ℕ ℕ) → slice_index bytes at ≡ 92 → IfOk r (λ to. IsEscape 34 (slice_range bytes (at + 1) to)) → IfOk r (λ to. (at + 1 < to) × (to ≤ length bytes)) → IfSome (result_ok r) (λ to. are_escapes 0 (slice_range bytes at (length bytes)) ≡ are_escapes 0 (slice_range bytes to (length bytes)))
escape_some bytes at (Ok to) opens whole within = over_escape bytes at to (length bytes) opens whole within.1 (omega arith)
escape_some bytes at (Err stuck) opens whole within = tt

escape_none : (bytes : List ℕ) (at : ℕ) (r : Result ℕ ℕ) → at < length bytes → slice_index bytes at ≡ 92 → IfErr r (λ stuck. Stops (IsEscape 34) bytes (at + 1) stuck) → IfNone (result_ok r) (are_escapes 0 (slice_range bytes at (length bytes)) ≡ false)
escape_none bytes at (Ok to) lt opens stops = tt
escape_none bytes at (Err stuck) lt opens stops = over_none bytes at stuck lt opens stops

pub returns-clause-some : goal.returns-clause-some
returns-clause-some c =
    let here = sym c.byte_at.ensures ∙ c.if-byte_at-ne92.false in
    subst (λ (o : Option ℕ). IfSome o (λ to. are_escapes 0 (slice_range c.args.inside.now c.args.at (length c.args.inside.now)) ≡ are_escapes 0 (slice_range c.args.inside.now to (length c.args.inside.now)))) (sym c.ok.ensures.value)
    (escape_some c.args.inside.now c.args.at c.escape.result here c.escape.ensures.whole c.escape.ensures.within)

pub returns-clause-none : goal.returns-clause-none
returns-clause-none c =
    let here = sym c.byte_at.ensures ∙ c.if-byte_at-ne92.false in
    subst (λ (o : Option ℕ). IfNone o (are_escapes 0 (slice_range c.args.inside.now c.args.at (length c.args.inside.now)) ≡ false)) (sym c.ok.ensures.value)
    (escape_none c.args.inside.now c.args.at c.escape.result c.requires here c.escape.ensures.stops)
