use Rattle.std.proofs.Common.{◌≡◌, ◌≤◌, ◌<◌, ◌+◌, ℕ, false, List, length, slice_index, Some, sym, ◌∙◌, ap, arith, inl, inr, IfOk, IfErr, Result, Ok, Err}
use Rattle.std.specs.Prelude.{slice_range}
use Rattle.std.proofs.lemmas.Bool.{both_ways}
use Rattle.go_tree.specs.Lexical.Characters.{is_allowed}
use Rattle.go_tree.specs.Lexical.Literals.{IsCharacter}
use Rattle.go_scan.specs.Escapes.{Stops, IsEscape, IsQuote, NoCharacter}
use Rattle.go_scan.proofs.LiteralCharacterLemmas.{character_from, character_itself, character_escaped, allowed_itself, no_character, no_character_byte, no_character_escape}
use Rattle.go_scan.proofs.escapes.character.Goals.{then-byte-quote-via-then-byte-quote, then-byte-quote-via-else-byte-quote+then-byte-eq10}
use Rattle.go_scan.proofs.escapes.character.Goals as goal

escaped_ok : (quote : ℕ) (bytes : List ℕ) (at : ℕ) (r : Result ℕ ℕ) → slice_index bytes at ≡ 92 → IfOk r (λ to. IsEscape quote (slice_range bytes (at + 1) to)) → IfOk r (λ to. (at + 1 < to) × (to ≤ length bytes)) → IfOk r (λ to. IsCharacter quote bytes at to)
escaped_ok quote bytes at (Ok to) opens e w = character_escaped quote bytes at to opens w.1 e
escaped_ok quote bytes at (Err stuck) opens e w = tt

escaped_err : (quote : ℕ) (bytes : List ℕ) (at : ℕ) (r : Result ℕ ℕ) → IsQuote quote → slice_index bytes at ≡ 92 → IfErr r (λ stuck. Stops (IsEscape quote) bytes (at + 1) stuck) → IfErr r (λ stuck. NoCharacter quote bytes at stuck)
escaped_err quote bytes at (Ok to) q opens s = tt
escaped_err quote bytes at (Err stuck) q opens s = no_character_escape quote bytes at stuck q opens s

pub returns-then-byte-eq92-clause-whole : goal.returns-then-byte-eq92-clause-whole
returns-then-byte-eq92-clause-whole c = escaped_ok c.args.quote c.args.bytes.now c.args.at c.escape.result (sym c.byte_at-byte.ensures ∙ c.if-byte-eq92.true) c.escape.ensures.whole c.escape.ensures.within

pub returns-then-byte-eq92-clause-none : goal.returns-then-byte-eq92-clause-none
returns-then-byte-eq92-clause-none c = escaped_err c.args.quote c.args.bytes.now c.args.at c.escape.result c.requires.quote (sym c.byte_at-byte.ensures ∙ c.if-byte-eq92.true) c.escape.ensures.stops

pub returns-then-byte-quote-clause-none : goal.returns-then-byte-quote-clause-none
returns-then-byte-quote-clause-none c =
    no_character_byte c.args.quote c.args.bytes.now c.args.at c.requires.quote
    (elim c.then-byte-quote.branch [ then-byte-quote-via-then-byte-quote w ↦ inl (sym c.byte_at-byte.ensures ∙ w.if-byte-quote.true) | then-byte-quote-via-else-byte-quote+then-byte-eq10 w ↦ inr (sym c.byte_at-byte.ensures ∙ w.if-byte-eq10.true) ])

whole : (c : goal.Then-is_allowed) → IsCharacter c.args.quote c.args.bytes.now c.args.at (c.args.at + c.in-Some.size)
whole c =
    character_itself c.args.quote c.args.bytes.now c.args.at c.in-Some.c c.in-Some.size c.requires.quote c.in-Some.ensures.some.0 c.in-Some.ensures.some.1 (sym c.is_allowed.ensures ∙ c.if-is_allowed.true)
    (λ e. c.if-byte-quote.false (c.byte_at-byte.ensures ∙ e))
    (λ e. c.if-byte-eq92.false (c.byte_at-byte.ensures ∙ e))
    (λ e. c.if-byte-eq10.false (c.byte_at-byte.ensures ∙ e))

pub overflow_add-result : goal.overflow_add-result
overflow_add-result c = let w = character_from c.args.quote c.args.bytes.now c.args.at (c.args.at + c.in-Some.size) (whole c) in omega (arith, w.1)

pub returns-then-is_allowed-clause-whole : goal.returns-then-is_allowed-clause-whole
returns-then-is_allowed-clause-whole c = whole c

pub returns-then-is_allowed-clause-within : goal.returns-then-is_allowed-clause-within
returns-then-is_allowed-clause-within c = character_from c.args.quote c.args.bytes.now c.args.at (c.args.at + c.in-Some.size) (whole c)

pub returns-else-is_allowed-clause-none : goal.returns-else-is_allowed-clause-none
returns-else-is_allowed-clause-none c =
    no_character c.args.quote c.args.bytes.now c.args.at c.requires.within (λ e. c.if-byte-eq92.false (c.byte_at-byte.ensures ∙ e)) (λ x char ok.
    let some = c.in-Some.ensures.some.0 in
    let same : x ≡ c.in-Some.c = (let both : Some x ≡ Some c.in-Some.c = sym char ∙ some in cc) in
    let unfit : is_allowed c.in-Some.c ≡ false = sym c.is_allowed.ensures ∙ c.if-is_allowed.false in
    both_ways _ unfit (sym (ap is_allowed same) ∙ allowed_itself c.args.quote x ok))
