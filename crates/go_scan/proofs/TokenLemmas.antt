-- Lemmas on the longest token: what else could stand where one of a kind stands.
use Rattle.std.proofs.Common.{◌≡◌, ◌≢◌, ℕ, zero, suc, ◌+◌, ◌<◌, ◌≤◌, ◌==◌, true, false, List, length, slice_index, slice_range, Some, refl, arith, sym, ◌∙◌, ⊎_elim, ◌⊎◌, inl, inr}
use Rattle.std.proofs.lemmas.Bool.{cases_Bool, false≢true, and_parts, eqb-true}
use Rattle.std.proofs.lemmas.Bool.Decides.{nat_tests}
use Rattle.go_tree.specs.declared.token.TokenKind.{TokenKind}
use Rattle.go_tree.specs.Lexical.Comments.{OpensLine, OpensGeneral}
use Rattle.go_tree.specs.Lexical.Numbers.{is_decimal, begins_number, IsNumberRun}
use Rattle.go_tree.specs.Lexical.Literals.{IsRuneLit, IsInterpretedLit, IsRawLit}
use Rattle.go_tree.specs.Lexical.Tokens.{IsSpelled, IsWord, IsLexeme}
use Rattle.go_scan.specs.Blame.{OpensLiteral}
use Rattle.go_scan.specs.Ascii.{is_ascii_letter}
use Rattle.go_scan.proofs.CharacterLemmas.{ascii_letters}
use Rattle.go_tree.proofs.ByteLemmas.{byte_char}
use Rattle.go_scan.proofs.LexemeLemmas.{is_mark, SpelledAt, spelled_at, Form, form_of}

-- what a lexeme is, by its form
pub data Lexed (bytes : List ℕ) (from n : ℕ) : Type 0 where
  word : IsWord bytes from n → Lexed bytes from n
  number : IsNumberRun bytes from n → Lexed bytes from n
  rune : IsRuneLit bytes from n → Lexed bytes from n
  interpreted : IsInterpretedLit bytes from n → Lexed bytes from n
  raw : IsRawLit bytes from n → Lexed bytes from n
  spelled : (kind : TokenKind) → IsSpelled kind (slice_range bytes from n) → Lexed bytes from n
  opening : OpensLine bytes from ⊎ OpensGeneral bytes from → Lexed bytes from n

lexed_form : (bytes : List ℕ) (kind : TokenKind) (from n : ℕ) → Form bytes kind from n → Lexed bytes from n
lexed_form bytes kind from n (Form.word k w o) = Lexed.word w
lexed_form bytes kind from n (Form.number r k) = Lexed.number r
lexed_form bytes kind from n (Form.rune k h) = Lexed.rune h
lexed_form bytes kind from n (Form.interpreted k h) = Lexed.interpreted h
lexed_form bytes kind from n (Form.raw k h) = Lexed.raw h
lexed_form bytes kind from n (Form.spelled h) = Lexed.spelled kind h

pub lexed : (bytes : List ℕ) (from n : ℕ) → IsLexeme bytes from n → Lexed bytes from n
lexed bytes from n (inl token) = lexed_form bytes token.0 from n (form_of bytes token.0 from n token.1)
lexed bytes from n (inr (inl run)) = Lexed.number run
lexed bytes from n (inr (inr opens)) = Lexed.opening opens.1

-- a byte that stands where a word begins is a letter
pub word_byte : (bytes : List ℕ) (from to b : ℕ) → IsWord bytes from to → slice_index bytes from ≡ suc b → suc b < 128 → is_ascii_letter (suc b) ≡ true
word_byte bytes from to b w byte lt =
    let same : w.first ≡ suc b = some_same (sym w.char ∙ byte_char bytes from b byte lt) in
    sym (ascii_letters (suc b) lt) ∙ rw same at w.letter
  where
    some_same : {x y : ℕ} → Some x ≡ Some y → x ≡ y
    some_same e = cc

pub no_word : (bytes : List ℕ) (from to b : ℕ) → slice_index bytes from ≡ suc b → suc b < 128 → is_ascii_letter (suc b) ≡ false → IsWord bytes from to → ⊥
no_word bytes from to b byte lt other w = false≢true (sym other ∙ word_byte bytes from to b w byte lt)

-- a number begins with a digit or with a point before one
abbrev NumberByte : List ℕ → ℕ → Type 0
NumberByte bytes from = (is_decimal (slice_index bytes from) ≡ true) ⊎ ((slice_index bytes from ≡ 46) × (is_decimal (slice_index bytes (from + 1)) ≡ true))

number_byte : (bytes : List ℕ) (from : ℕ) → begins_number bytes from ≡ true → NumberByte bytes from
number_byte bytes from h = ⊎_elim
    (λ (digit : is_decimal (slice_index bytes from) ≡ true). inl digit)
    (λ (other : is_decimal (slice_index bytes from) ≡ false). let p = and_parts (slice_index bytes from == 46) _ (rw other at h) in inr (eqb-true _ _ p.0, p.1))
    (cases_Bool (is_decimal (slice_index bytes from)))

digit_form : (b : ℕ) → is_decimal b ≡ true → (n : ℕ) × (b ≡ suc n) × (suc n < 128) × (is_ascii_letter (suc n) ≡ false)
digit_form zero h = absurd (false≢true h)
digit_form (suc n) h = (n, refl, low n h, apart n h)
  where
    low : (n : ℕ) → is_decimal (suc n) ≡ true → suc n < 128
    low n h = grind (arith, nat_tests)

    apart : (n : ℕ) → is_decimal (suc n) ≡ true → is_ascii_letter (suc n) ≡ false
    apart n h = grind (arith, nat_tests)

pub number_no_word : (bytes : List ℕ) (from n : ℕ) → begins_number bytes from ≡ true → IsWord bytes from n → ⊥
number_no_word bytes from n h w = ⊎_elim
    (λ (digit : is_decimal (slice_index bytes from) ≡ true). let d = digit_form _ digit in no_word bytes from n d.0 d.1 d.2 d.3 w)
    (λ (point : (slice_index bytes from ≡ 46) × (is_decimal (slice_index bytes (from + 1)) ≡ true)). no_word bytes from n 45 point.0 (omega arith) refl w)
    (number_byte bytes from h)

digit_no_mark : (b : ℕ) → is_decimal b ≡ true → is_mark b ≡ false
digit_no_mark b h = grind (arith, nat_tests)

point_no_digit : (b : ℕ) → b ≡ 46 → is_decimal b ≡ true → ⊥
point_no_digit b e h = false≢true (rw e at h)

-- of what is spelled a number begins with `.` alone
pub number_spelled : (bytes : List ℕ) (kind : TokenKind) (from n : ℕ) → n ≤ length bytes → begins_number bytes from ≡ true → IsSpelled kind (slice_range bytes from n) → (n ≡ from + 1) × (slice_index bytes from ≡ 46)
number_spelled bytes kind from n le h s = at (spelled_at bytes kind from n le s)
  where
    at : SpelledAt bytes from n → (n ≡ from + 1) × (slice_index bytes from ≡ 46)
    at (SpelledAt.word small w) = absurd (number_no_word bytes from n h w)
    at (SpelledAt.mark m dots slash) = ⊎_elim
        (λ (digit : is_decimal (slice_index bytes from) ≡ true). absurd (false≢true (sym (digit_no_mark (slice_index bytes from) digit) ∙ m)))
        (λ (point : (slice_index bytes from ≡ 46) × (is_decimal (slice_index bytes (from + 1)) ≡ true)). ⊎_elim
        (λ (alone : n ≡ from + 1). (alone, point.0))
        (λ (second : slice_index bytes (from + 1) ≡ 46). absurd (point_no_digit (slice_index bytes (from + 1)) second point.1))
        (dots point.0))
        (number_byte bytes from h)

-- a byte that begins no number
pub not_number : (bytes : List ℕ) (from b : ℕ) → slice_index bytes from ≡ b → is_decimal b ≡ false → (b ≡ 46 → ⊥) → begins_number bytes from ≡ true → ⊥
not_number bytes from b byte digit point h = ⊎_elim
    (λ (d : is_decimal (slice_index bytes from) ≡ true). false≢true (sym digit ∙ rw byte at d))
    (λ (p : (slice_index bytes from ≡ 46) × (is_decimal (slice_index bytes (from + 1)) ≡ true)). point (sym byte ∙ p.0))
    (number_byte bytes from h)

opening_byte : (bytes : List ℕ) (from : ℕ) → OpensLine bytes from ⊎ OpensGeneral bytes from → slice_index bytes from ≡ 47
opening_byte bytes from (inl o) = o.0
opening_byte bytes from (inr o) = o.0

mark_form : (b : ℕ) → is_mark b ≡ true → (n : ℕ) × (b ≡ suc n) × (suc n < 128) × (is_ascii_letter (suc n) ≡ false)
mark_form zero h = absurd (false≢true h)
mark_form (suc n) h = (n, refl, low n h, apart n h)
  where
    low : (n : ℕ) → is_mark (suc n) ≡ true → suc n < 128
    low n h = grind (arith, nat_tests)

    apart : (n : ℕ) → is_mark (suc n) ≡ true → is_ascii_letter (suc n) ≡ false
    apart n h = grind (arith, nat_tests)

-- no word stands where a mark does
pub word_no_mark : (bytes : List ℕ) (from to : ℕ) → IsWord bytes from to → is_mark (slice_index bytes from) ≡ true → ⊥
word_no_mark bytes from to w m = let d = mark_form (slice_index bytes from) m in no_word bytes from to d.0 d.1 d.2 d.3 w

-- where a word stands, only a word is a lexeme
pub word_alone : (bytes : List ℕ) (from to n : ℕ) → IsWord bytes from to → n ≤ length bytes → IsLexeme bytes from n → IsWord bytes from n
word_alone bytes from to n w le h = at (lexed bytes from n h)
  where
    at : Lexed bytes from n → IsWord bytes from n
    at (Lexed.word x) = x
    at (Lexed.number r) = absurd (number_no_word bytes from to r.0 w)
    at (Lexed.rune x) = absurd (no_word bytes from to 38 x.opens (omega arith) refl w)
    at (Lexed.interpreted x) = absurd (no_word bytes from to 33 x.opens (omega arith) refl w)
    at (Lexed.raw x) = absurd (no_word bytes from to 95 x.opens (omega arith) refl w)
    at (Lexed.spelled kind s) = spelled (spelled_at bytes kind from n le s)
      where
        spelled : SpelledAt bytes from n → IsWord bytes from n
        spelled (SpelledAt.word small x) = x
        spelled (SpelledAt.mark m dots slash) = absurd (word_no_mark bytes from to w m)
    at (Lexed.opening o) = absurd (no_word bytes from to 46 (opening_byte bytes from o) (omega arith) refl w)

-- where a number begins, a lexeme of two bytes and more is its run
pub number_alone : (bytes : List ℕ) (from n : ℕ) → begins_number bytes from ≡ true → n ≤ length bytes → IsLexeme bytes from n → (n ≡ from + 1) ⊎ IsNumberRun bytes from n
number_alone bytes from n h le l = at (lexed bytes from n l)
  where
    at : Lexed bytes from n → (n ≡ from + 1) ⊎ IsNumberRun bytes from n
    at (Lexed.word x) = absurd (number_no_word bytes from n h x)
    at (Lexed.number r) = inr r
    at (Lexed.rune x) = absurd (not_number bytes from 39 x.opens refl (λ e. omega (arith, e)) h)
    at (Lexed.interpreted x) = absurd (not_number bytes from 34 x.opens refl (λ e. omega (arith, e)) h)
    at (Lexed.raw x) = absurd (not_number bytes from 96 x.opens refl (λ e. omega (arith, e)) h)
    at (Lexed.spelled kind s) = inl (number_spelled bytes kind from n le h s).0
    at (Lexed.opening o) = absurd (not_number bytes from 47 (opening_byte bytes from o) refl (λ e. omega (arith, e)) h)

quote_form : (b : ℕ) → OpensLiteral b → (n : ℕ) × (b ≡ suc n) × (suc n < 128) × (is_ascii_letter (suc n) ≡ false) × (is_decimal b ≡ false) × (is_mark b ≡ false) × (b ≢ 46) × (b ≢ 47)
quote_form b (inl e) = (38, e, omega arith, refl, rw e refl, rw e refl, λ p. omega (arith, e, p), λ p. omega (arith, e, p))
quote_form b (inr (inl e)) = (33, e, omega arith, refl, rw e refl, rw e refl, λ p. omega (arith, e, p), λ p. omega (arith, e, p))
quote_form b (inr (inr e)) = (95, e, omega arith, refl, rw e refl, rw e refl, λ p. omega (arith, e, p), λ p. omega (arith, e, p))

-- where a quote stands, only its literal is a lexeme
abbrev pub Quoted : List ℕ → ℕ → ℕ → Type 0
Quoted bytes from n = IsRuneLit bytes from n ⊎ (IsInterpretedLit bytes from n ⊎ IsRawLit bytes from n)

pub quote_alone : (bytes : List ℕ) (from n : ℕ) → OpensLiteral (slice_index bytes from) → n ≤ length bytes → IsLexeme bytes from n → Quoted bytes from n
quote_alone bytes from n q le l = at (lexed bytes from n l)
  where
    f : (m : ℕ) × (slice_index bytes from ≡ suc m) × (suc m < 128) × (is_ascii_letter (suc m) ≡ false) × (is_decimal (slice_index bytes from) ≡ false) × (is_mark (slice_index bytes from) ≡ false) × (slice_index bytes from ≢ 46) × (slice_index bytes from ≢ 47)
    f = quote_form (slice_index bytes from) q

    at : Lexed bytes from n → Quoted bytes from n
    at (Lexed.word x) = absurd (no_word bytes from n f.0 f.1 f.2 f.3 x)
    at (Lexed.number r) = absurd (not_number bytes from (slice_index bytes from) refl f.4 f.6 r.0)
    at (Lexed.rune x) = inl x
    at (Lexed.interpreted x) = inr (inl x)
    at (Lexed.raw x) = inr (inr x)
    at (Lexed.spelled kind s) = spelled (spelled_at bytes kind from n le s)
      where
        spelled : SpelledAt bytes from n → Quoted bytes from n
        spelled (SpelledAt.word small x) = absurd (no_word bytes from n f.0 f.1 f.2 f.3 x)
        spelled (SpelledAt.mark m dots slash) = absurd (false≢true (sym f.5 ∙ m))
    at (Lexed.opening o) = absurd (f.7 (opening_byte bytes from o))

-- elsewhere, and where no comment opens, a lexeme is spelled
pub other_alone : (bytes : List ℕ) (from n : ℕ) → (IsWord bytes from n → ⊥) → begins_number bytes from ≡ false → (OpensLiteral (slice_index bytes from) → ⊥) → (OpensLine bytes from → ⊥) → (OpensGeneral bytes from → ⊥) → IsLexeme bytes from n → (kind : TokenKind) × IsSpelled kind (slice_range bytes from n)
other_alone bytes from n not_word no_number no_quote no_line no_general l = at (lexed bytes from n l)
  where
    at : Lexed bytes from n → (kind : TokenKind) × IsSpelled kind (slice_range bytes from n)
    at (Lexed.word x) = absurd (not_word x)
    at (Lexed.number r) = absurd (false≢true (sym no_number ∙ r.0))
    at (Lexed.rune x) = absurd (no_quote (inl x.opens))
    at (Lexed.interpreted x) = absurd (no_quote (inr (inl x.opens)))
    at (Lexed.raw x) = absurd (no_quote (inr (inr x.opens)))
    at (Lexed.spelled kind s) = (kind, s)
    at (Lexed.opening (inl o)) = absurd (no_line o)
    at (Lexed.opening (inr o)) = absurd (no_general o)

-- no quote begins what is spelled
pub no_spelled_quote : (bytes : List ℕ) (kind : TokenKind) (from n : ℕ) → n ≤ length bytes → OpensLiteral (slice_index bytes from) → IsSpelled kind (slice_range bytes from n) → ⊥
no_spelled_quote bytes kind from n le q s = at (spelled_at bytes kind from n le s)
  where
    at : SpelledAt bytes from n → ⊥
    at (SpelledAt.word small x) = let f = quote_form (slice_index bytes from) q in no_word bytes from n f.0 f.1 f.2 f.3 x
    at (SpelledAt.mark m dots slash) = let f = quote_form (slice_index bytes from) q in false≢true (sym f.5 ∙ m)
