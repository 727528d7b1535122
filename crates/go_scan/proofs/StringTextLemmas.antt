-- Lemmas on the strings for which texts stand.
use Rattle.std.proofs.Common.{◌≡◌, ◌≢◌, ℕ, zero, suc, ◌+◌, ◌-◌, ◌<◌, ◌≤◌, true, false, List, [], ◌∷◌, ◌++◌, Some, length, take, drop, slice_index, refl, sym, ap, subst, ◌∙◌, arith, ⊎_elim, inl, inr, length-append, take_all}
use Rattle.std.specs.Prelude.{slice_range, ◌==◌, ◌&&◌, ◌||◌}
use Rattle.std.proofs.lemmas.Bool.{and_parts, cases_eq, cases_lt, cond-false, cond-true, eq-eqb, false_from_ne_true, ne_eqb, or_left}
use Rattle.std.proofs.lemmas.List.{take-append-drop}
use Rattle.std.proofs.Math.Seq.{take-append_seam, drop-append_seam}
use Rattle.go_tree.specs.Lexical.Literals.{is_escape}
use Rattle.go_tree.specs.Lexical.LiteralValues.{escape_len, inside_of, string_lit_value, unescaped, without_returns}
use Rattle.go_scan.specs.Escapes.{IsEscape, Stops}
use Rattle.go_scan.specs.Quoted.{Escapes, done, byte, escape, IsStringLit}
use Rattle.go_scan.specs.StringTexts.{are_escapes, is_string, string_of}
use Rattle.go_tree.proofs.ByteLemmas.{range_cons, range_empty, range_length, range_split}
use Rattle.go_scan.proofs.InsideLemmas.{inside_range, take_front}
use Rattle.go_scan.proofs.LiteralCharacterLemmas.{escape_some, stops_none}
use Rattle.go_scan.proofs.QuotedLemmas.{string_quote}
use Rattle.go_scan.proofs.StringLemmas.{string_escapes, string_within}
use Rattle.go_scan.proofs.UnescapeLemmas.{escape_length, escapes_from}

pub range_all : (xs : List ℕ) → slice_range xs 0 (length xs) ≡ xs
range_all xs = let n : length xs - 0 ≡ length xs = omega arith in ap (λ k. take k xs) n ∙ take_all (length xs) xs (omega arith)

skipped_all : (n : ℕ) (xs : List ℕ) → are_escapes n xs ≡ are_escapes 0 (drop n xs)
skipped_all zero xs = refl
skipped_all (suc n) [] = refl
skipped_all (suc n) (x ∷ xs) = skipped_all n xs

-- a byte that is no backslash
pub over_byte : (bytes : List ℕ) (at close : ℕ) → at < close → close ≤ length bytes → slice_index bytes at ≢ 92 → are_escapes 0 (slice_range bytes at close) ≡ are_escapes 0 (slice_range bytes (at + 1) close)
over_byte bytes at close lt within ne =
    ap (λ xs. are_escapes 0 xs) (range_cons bytes at close lt (omega arith)) ∙ cond-false (slice_index bytes at == 92) _ _ (ne_eqb _ _ ne)

behind_backslash : (xs ys : List ℕ) → IsEscape 34 xs → are_escapes 0 (92 ∷ (xs ++ ys)) ≡ are_escapes 0 ys
behind_backslash xs ys h =
    ap (λ n. is_escape 34 (take n (xs ++ ys)) && are_escapes n (xs ++ ys)) (escape_length 34 xs ys string_quote h)
    ∙ ap (λ t. is_escape 34 t && are_escapes (length xs) (xs ++ ys)) (take-append_seam xs ys)
    ∙ ap (λ t. t && are_escapes (length xs) (xs ++ ys)) h
    ∙ skipped_all (length xs) (xs ++ ys)
    ∙ ap (λ t. are_escapes 0 t) (drop-append_seam xs ys)

-- an escape
pub over_escape : (bytes : List ℕ) (at to close : ℕ) → slice_index bytes at ≡ 92 → IsEscape 34 (slice_range bytes (at + 1) to) → to ≤ close → close ≤ length bytes → are_escapes 0 (slice_range bytes at close) ≡ are_escapes 0 (slice_range bytes to close)
over_escape bytes at to close opens h le within =
    let s = escape_some 34 bytes (at + 1) to h in
    let cons = range_cons bytes at close (omega arith) (omega arith) in
    let split = range_split bytes (at + 1) to close (omega arith) le in
    ap (λ xs. are_escapes 0 xs) (cons ∙ ap (λ b. b ∷ slice_range bytes (at + 1) close) opens ∙ ap (λ xs. 92 ∷ xs) split)
    ∙ behind_backslash (slice_range bytes (at + 1) to) (slice_range bytes to close) h

-- the escape that a backslash begins
record EscapeIn (bytes : List ℕ) (at close : ℕ) : Type 0 where
  to : ℕ
  is : IsEscape 34 (slice_range bytes (at + 1) to)
  within : to ≤ close

-- its bytes are as many as its first says, and all there
first_length : (zs : List ℕ) (n : ℕ) → n ≡ escape_len zs → IsEscape 34 (take n zs) → n ≤ length zs
first_length zs n is h =
    let same = take-append-drop n zs in
    let l : escape_len (take n zs ++ drop n zs) ≡ length (take n zs) = escape_length 34 (take n zs) (drop n zs) string_quote h in
    let size : n ≡ length (take n zs) = is ∙ sym (ap escape_len same) ∙ l in
    let total : length (take n zs) + length (drop n zs) ≡ length zs = sym (length-append (take n zs) (drop n zs)) ∙ ap length same in
    omega (arith, size, total)

escape_in : (bytes : List ℕ) (at close n : ℕ) → at < close → close ≤ length bytes → n ≡ escape_len (slice_range bytes (at + 1) close) → IsEscape 34 (take n (slice_range bytes (at + 1) close)) → EscapeIn bytes at close
escape_in bytes at close n lt within is h =
    let f = first_length (slice_range bytes (at + 1) close) n is h in
    let l = range_length bytes (at + 1) close (omega arith) within in
    let size : at + 1 + n - (at + 1) ≡ n = omega arith in
    let same : take n (slice_range bytes (at + 1) close) ≡ slice_range bytes (at + 1) (at + 1 + n) = take_front n (close - (at + 1)) (drop (at + 1) bytes) (omega arith) ∙ sym (ap (λ k. take k (drop (at + 1) bytes)) size) in
    record { to = at + 1 + n; is = subst (λ (xs : List ℕ). IsEscape 34 xs) same h; within = omega arith }

first_escape : (bytes : List ℕ) (at close : ℕ) → at < close → close ≤ length bytes → slice_index bytes at ≡ 92 → are_escapes 0 (slice_range bytes at close) ≡ true → EscapeIn bytes at close
first_escape bytes at close lt within opens h =
    let cons = range_cons bytes at close lt (omega arith) in
    let begins : are_escapes 0 (92 ∷ slice_range bytes (at + 1) close) ≡ true = sym (ap (λ xs. are_escapes 0 xs) (cons ∙ ap (λ b. b ∷ slice_range bytes (at + 1) close) opens)) ∙ h in
    escape_in bytes at close (escape_len (slice_range bytes (at + 1) close)) lt within refl (and_parts _ _ begins).0

-- a backslash that begins none
pub over_none : (bytes : List ℕ) (at stuck : ℕ) → at < length bytes → slice_index bytes at ≡ 92 → Stops (IsEscape 34) bytes (at + 1) stuck → are_escapes 0 (slice_range bytes at (length bytes)) ≡ false
over_none bytes at stuck lt opens s =
    false_from_ne_true (are_escapes 0 (slice_range bytes at (length bytes))) (λ h.
    let e = first_escape bytes at (length bytes) lt (omega arith) opens h in
    stops_none 34 bytes (at + 1) stuck e.to string_quote s e.within e.is)

escapes_by : (n : ℕ) (bytes : List ℕ) (at close : ℕ) → close ≤ length bytes → close ≤ at + n → at ≤ close → are_escapes 0 (slice_range bytes at close) ≡ true → Escapes bytes close at
escapes_by zero bytes at close within fuel le h = let same : close ≡ at = omega arith in subst (λ (k : ℕ). Escapes bytes close k) same (done within)
escapes_by (suc n) bytes at close within fuel le h =
    ⊎_elim
    (λ (lt : at < close). ⊎_elim
    (λ (opens : slice_index bytes at ≡ 92).
    let e = first_escape bytes at close lt within opens h in
    let some = escape_some 34 bytes (at + 1) e.to e.is in
    escape opens e.is e.within (escapes_by n bytes e.to close within (omega (arith, some)) e.within (sym (over_escape bytes at e.to close opens e.is e.within within) ∙ h)))
    (λ (ne : slice_index bytes at ≢ 92). byte lt ne (escapes_by n bytes (at + 1) close within (omega arith) (omega arith) (sym (over_byte bytes at close lt within ne) ∙ h)))
    (cases_eq (slice_index bytes at) 92))
    (λ (ge : close ≤ at). let same : close ≡ at = omega arith in subst (λ (k : ℕ). Escapes bytes close k) same (done within))
    (cases_lt at close)

-- the decision is right: of the bytes with escapes
are_escapes_of : {bytes : List ℕ} {close at : ℕ} → Escapes bytes close at → are_escapes 0 (slice_range bytes at close) ≡ true
are_escapes_of {bytes} {close} (done le) = ap (λ xs. are_escapes 0 xs) (range_empty bytes close)
are_escapes_of {bytes} {close} {at} (byte lt ne rest) = over_byte bytes at close lt (escapes_from rest).1 ne ∙ are_escapes_of rest
are_escapes_of {bytes} {close} (escape {at} {to} opens h le rest) = over_escape bytes at to close opens h le (escapes_from rest).1 ∙ are_escapes_of rest

interpreted_is : (text : List ℕ) → 0 < length text → slice_index text 0 ≢ 96 → is_string text ≡ are_escapes 0 (inside_of text)
interpreted_is [] some ne = absurd (omega arith)
interpreted_is (b ∷ bs) some ne = ap (λ x. x || are_escapes 0 (inside_of (b ∷ bs))) (ne_eqb b 96 ne)

raw_is : (text : List ℕ) → slice_index text 0 ≡ 96 → is_string text ≡ true
raw_is [] e = absurd (omega arith)
raw_is (b ∷ bs) e = or_left _ _ (eq-eqb b 96 e)

-- a text in which each backslash begins an escape
pub record IsInterpretedText (text inside : List ℕ) : Type 0 where
  pub escapes : Escapes inside (length inside) 0
  pub value : unescaped 0 (slice_range inside 0 (length inside)) ≡ string_lit_value text

interpreted_text_value : (text : List ℕ) → slice_index text 0 ≢ 96 → unescaped 0 (inside_of text) ≡ string_lit_value text
interpreted_text_value [] ne = refl
interpreted_text_value (b ∷ bs) ne = sym (cond-false (b == 96) _ _ (ne_eqb b 96 ne))

string_some : (text : List ℕ) → is_string text ≡ true → 0 < length text
string_some [] h = cc
string_some (b ∷ bs) h = omega arith

pub interpreted_text : (text inside : List ℕ) → is_string text ≡ true → slice_index text 0 ≢ 96 → inside ≡ inside_of text → IsInterpretedText text inside
interpreted_text text inside h ne is =
    let all = range_all inside in
    let are : are_escapes 0 (slice_range inside 0 (length inside)) ≡ true = ap (λ xs. are_escapes 0 xs) (all ∙ is) ∙ sym (interpreted_is text (string_some text h) ne) ∙ h in
    record {
      escapes = escapes_by (length inside) inside 0 (length inside) (omega arith) (omega arith) (omega arith) are;
      value = ap (λ xs. unescaped 0 xs) (all ∙ is) ∙ interpreted_text_value text ne;
    }

pub raw_text_value : (text : List ℕ) → slice_index text 0 ≡ 96 → without_returns (inside_of text) ≡ string_lit_value text
raw_text_value [] e = absurd (omega arith)
raw_text_value (b ∷ bs) e = sym (cond-true (b == 96) _ _ (eq-eqb b 96 e))

first_of : (bytes : List ℕ) (from to : ℕ) → from < to → to ≤ length bytes → slice_index (slice_range bytes from to) 0 ≡ slice_index bytes from
first_of bytes from to lt within = ap (λ xs. slice_index xs 0) (range_cons bytes from to lt (omega arith))

-- a string literal is a text that stands for a string
pub literal_is_string : (bytes : List ℕ) (from to : ℕ) → IsStringLit bytes from to → is_string (slice_range bytes from to) ≡ true
literal_is_string bytes from to (inl lit) =
    let w = string_within bytes from to (inl lit) in
    let some = w.0 in
    let first = first_of bytes from to (omega arith) w.1 ∙ lit.opens in
    let l = range_length bytes from to (omega arith) w.1 in
    interpreted_is (slice_range bytes from to) (omega arith) (λ e. omega (arith, e, first))
    ∙ ap (λ xs. are_escapes 0 xs) (inside_range bytes from to (slice_range bytes from to) refl w.0 w.1).1
    ∙ are_escapes_of (string_escapes bytes from to lit)
literal_is_string bytes from to (inr lit) =
    let w = string_within bytes from to (inr lit) in
    let some = w.0 in
    raw_is (slice_range bytes from to) (first_of bytes from to (omega arith) w.1 ∙ lit.opens)

-- and for its value
pub string_of_literal : (text : List ℕ) → IsStringLit text 0 (length text) → string_of text ≡ Some (string_lit_value text)
string_of_literal text lit = cond-true (is_string text) _ _ (sym (ap is_string (range_all text)) ∙ literal_is_string text 0 (length text) lit)
