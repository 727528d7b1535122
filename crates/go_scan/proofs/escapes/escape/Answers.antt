use Rattle.std.proofs.Common.{◌≡◌, ◌≤◌, ◌<◌, ◌+◌, ℕ, true, List, length, slice_index, sym, ◌∙◌, ap, arith, IfOk, IfErr, Result, Ok, Err}
use Rattle.std.specs.Prelude.{slice_range}
use Rattle.go_tree.specs.Lexical.Literals.{is_simple_escape}
use Rattle.go_tree.specs.Lexical.Numbers.{is_octal}
use Rattle.go_scan.specs.declared.escapes.Digits.{Digits}
use Rattle.go_scan.specs.declared.escapes.Digits.TheVariants.{Octal, Byte, Little, Big}
use Rattle.go_scan.specs.Escapes.{AreDigits, Stops, IsEscape, IsQuote}
use Rattle.go_tree.proofs.ByteLemmas.{there}
use Rattle.go_scan.proofs.EscapeLemmas.{IsMark, simple_is, stops_octal, stops_marked, stops_none, whole_simple, whole_marked}
use Rattle.go_scan.proofs.escapes.escape.Goals as goal

-- digits behind a mark, and the escape
marked_ok : (quote : ℕ) (bytes : List ℕ) (from : ℕ) (kind : Digits) (r : Result ℕ ℕ) → IsMark kind (slice_index bytes from) → from < length bytes → IfOk r (λ to. AreDigits kind (slice_range bytes (from + 1) to)) → IfOk r (λ to. (from + 1 < to) × (to ≤ length bytes)) → IfOk r (λ to. IsEscape quote (slice_range bytes from to))
marked_ok quote bytes from kind (Ok to) m lt a w = whole_marked quote bytes from to kind m lt w.0 a
marked_ok quote bytes from kind (Err at) m lt a w = tt

marked_err : (quote : ℕ) (bytes : List ℕ) (from : ℕ) (kind : Digits) (r : Result ℕ ℕ) → IsQuote quote → IsMark kind (slice_index bytes from) → from < length bytes → IfErr r (λ at. Stops (AreDigits kind) bytes (from + 1) at) → IfErr r (λ at. Stops (IsEscape quote) bytes from at)
marked_err quote bytes from kind (Ok to) q m lt s = tt
marked_err quote bytes from kind (Err at) q m lt s = stops_marked quote bytes from at kind q m lt s

octal_err : (quote : ℕ) (bytes : List ℕ) (from : ℕ) (r : Result ℕ ℕ) → IsQuote quote → is_octal (slice_index bytes from) ≡ true → IfErr r (λ at. Stops (AreDigits Octal) bytes from at) → IfErr r (λ at. Stops (IsEscape quote) bytes from at)
octal_err quote bytes from (Ok to) q o s = tt
octal_err quote bytes from (Err at) q o s = stops_octal quote bytes from at q o s

pub returns-then-is_simple-clause-whole : goal.returns-then-is_simple-clause-whole
returns-then-is_simple-clause-whole c =
    let e : is_simple_escape c.args.quote c.byte_at-e.result ≡ true = sym c.is_simple.ensures ∙ c.if-is_simple.true in
    let s = simple_is c.args.quote c.byte_at-e.result c.requires.quote.some c.requires.quote.small e in
    let here : is_simple_escape c.args.quote (slice_index c.args.bytes.now c.args.from) ≡ true = sym (ap (λ x. is_simple_escape c.args.quote x) c.byte_at-e.ensures) ∙ e in
    whole_simple c.args.quote c.args.bytes.now c.args.from (there c.args.bytes.now c.args.from c.byte_at-e.result (sym c.byte_at-e.ensures) s.some) here

pub returns-then-is_digit-clause-stops : goal.returns-then-is_digit-clause-stops
returns-then-is_digit-clause-stops c = octal_err c.args.quote c.args.bytes.now c.args.from c.read_digits.result c.requires.quote (sym (ap is_octal c.byte_at-e.ensures) ∙ sym c.is_digit.ensures ∙ c.if-is_digit.true) c.read_digits.ensures.stops

pub returns-then-e-eq120-clause-whole : goal.returns-then-e-eq120-clause-whole
returns-then-e-eq120-clause-whole c =
    let e = sym c.byte_at-e.ensures ∙ c.if-e-eq120.true in
    marked_ok c.args.quote c.args.bytes.now c.args.from Byte c.read_digits-then-e-eq120.result e (there c.args.bytes.now c.args.from 120 e (omega arith)) c.read_digits-then-e-eq120.ensures.whole c.read_digits-then-e-eq120.ensures.within

pub returns-then-e-eq120-clause-stops : goal.returns-then-e-eq120-clause-stops
returns-then-e-eq120-clause-stops c =
    let e = sym c.byte_at-e.ensures ∙ c.if-e-eq120.true in
    marked_err c.args.quote c.args.bytes.now c.args.from Byte c.read_digits-then-e-eq120.result c.requires.quote e (there c.args.bytes.now c.args.from 120 e (omega arith)) c.read_digits-then-e-eq120.ensures.stops

pub returns-then-e-eq117-clause-whole : goal.returns-then-e-eq117-clause-whole
returns-then-e-eq117-clause-whole c =
    let e = sym c.byte_at-e.ensures ∙ c.if-e-eq117.true in
    marked_ok c.args.quote c.args.bytes.now c.args.from Little c.read_digits-then-e-eq117.result e (there c.args.bytes.now c.args.from 117 e (omega arith)) c.read_digits-then-e-eq117.ensures.whole c.read_digits-then-e-eq117.ensures.within

pub returns-then-e-eq117-clause-stops : goal.returns-then-e-eq117-clause-stops
returns-then-e-eq117-clause-stops c =
    let e = sym c.byte_at-e.ensures ∙ c.if-e-eq117.true in
    marked_err c.args.quote c.args.bytes.now c.args.from Little c.read_digits-then-e-eq117.result c.requires.quote e (there c.args.bytes.now c.args.from 117 e (omega arith)) c.read_digits-then-e-eq117.ensures.stops

pub returns-then-e-eq85-clause-whole : goal.returns-then-e-eq85-clause-whole
returns-then-e-eq85-clause-whole c =
    let e = sym c.byte_at-e.ensures ∙ c.if-e-eq85.true in
    marked_ok c.args.quote c.args.bytes.now c.args.from Big c.read_digits-then-e-eq85.result e (there c.args.bytes.now c.args.from 85 e (omega arith)) c.read_digits-then-e-eq85.ensures.whole c.read_digits-then-e-eq85.ensures.within

pub returns-then-e-eq85-clause-stops : goal.returns-then-e-eq85-clause-stops
returns-then-e-eq85-clause-stops c =
    let e = sym c.byte_at-e.ensures ∙ c.if-e-eq85.true in
    marked_err c.args.quote c.args.bytes.now c.args.from Big c.read_digits-then-e-eq85.result c.requires.quote e (there c.args.bytes.now c.args.from 85 e (omega arith)) c.read_digits-then-e-eq85.ensures.stops

pub returns-clause-stops : goal.returns-clause-stops
returns-clause-stops c =
    let here = c.byte_at-e.ensures in
    stops_none c.args.quote c.args.bytes.now c.args.from (record {
      no_simple = sym (ap (λ x. is_simple_escape c.args.quote x) here) ∙ sym c.is_simple.ensures ∙ c.if-is_simple.false;
      no_octal = sym (ap is_octal here) ∙ sym c.is_digit.ensures ∙ c.if-is_digit.false;
      no_byte = λ e. c.if-e-eq120.false (here ∙ e);
      no_little = λ e. c.if-e-eq117.false (here ∙ e);
      no_big = λ e. c.if-e-eq85.false (here ∙ e);
    }) c.requires.within
