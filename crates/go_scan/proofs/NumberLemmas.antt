-- Lemmas on numbers: how far one runs, and which kinds of literals there are.
use Rattle.std.proofs.Common.{◌≡◌, ℕ, zero, suc, ◌+◌, ◌-◌, ◌<◌, ◌≤◌, ◌||◌, Bool, true, false, List, slice_index, Some, None, if◌then◌else◌, ◌⊎◌, inl, inr, refl, arith, ◌∙◌}
use Rattle.std.proofs.lemmas.Bool.{or_left, or_right}
use Rattle.std.proofs.lemmas.Bool.Decides.{nat_tests}
use Rattle.go_tree.specs.declared.token.TokenKind.{TokenKind}
use Rattle.go_tree.specs.declared.token.TokenKind.TheVariants.{Int, Float}
use Rattle.go_tree.specs.Lexical.Characters.{decoded_at, Run, none, more, Ends}
use Rattle.go_tree.specs.Lexical.Numbers.{begins_number, goes_on, is_decimal, is_hexadecimal, is_int_lit, is_float_lit, is_imaginary_lit, IsNumberRun, number_kind}
use Rattle.go_scan.proofs.CharacterLemmas.{ascii_digits}
use Rattle.go_tree.proofs.ByteLemmas.{byte_char}
use Rattle.go_tree.proofs.CharacterRunLemmas.{run_longest, char_lies}

-- a number literal is of kind Int or Float
pub number_kind_int_or_float : (text : List ℕ) (k : TokenKind) → number_kind text ≡ Some k → (k ≡ Int) ⊎ (k ≡ Float)
number_kind_int_or_float text k h = kinds (is_int_lit text) (is_float_lit text || is_imaginary_lit text) h
  where
    kinds : (whole other : Bool) → (if whole then Some Int else (if other then Some Float else None)) ≡ Some k → (k ≡ Int) ⊎ (k ≡ Float)
    kinds true other e = inl (cc)
    kinds false true e = inr (cc)
    kinds false false e = absurd (cc)

pub number_longest : (bytes : List ℕ) (from to n : ℕ) (h : Bool) → h ≡ is_hexadecimal bytes from → Run (goes_on h) bytes (from + 1) to → Ends (goes_on h) bytes to → IsNumberRun bytes from n → n ≤ to
number_longest bytes from to n h same r e m = run_longest r e (rw same m.1)

decimal_below : (c : ℕ) → is_decimal c ≡ true → c < 128
decimal_below c digit = grind (arith, nat_tests)

-- a number goes on over a digit
digit_passes : (h : Bool) (before c : ℕ) → is_decimal c ≡ true → goes_on h before c ≡ true
digit_passes h before c digit = or_left _ _ (or_right _ _ (ascii_digits c (decimal_below c digit) ∙ digit))

-- and a digit is a character
digit_char : (bytes : List ℕ) (at c : ℕ) → slice_index bytes at ≡ c → is_decimal c ≡ true → (decoded_at bytes at).char ≡ Some c
digit_char bytes at zero e digit = cc
digit_char bytes at (suc b) e digit = byte_char bytes at b e (decimal_below (suc b) digit)

-- the digit behind a point belongs to the number
pub point_goes_on : (bytes : List ℕ) (from : ℕ) → begins_number bytes from ≡ true → slice_index bytes from ≡ 46 → (n : ℕ) × IsNumberRun bytes from n × (from + 2 ≤ n)
point_goes_on bytes from begins point =
    let digit : is_decimal (slice_index bytes (from + 1)) ≡ true = rw point at begins in
    let char = digit_char bytes (from + 1) _ refl digit in
    let lies = (char_lies bytes (from + 1) _ char).some in
    (_, (begins, more none char (digit_passes (is_hexadecimal bytes from) (slice_index bytes (from + 1 - 1)) _ digit)), omega (arith, lies))

pub number_point : (bytes : List ℕ) (from to : ℕ) → begins_number bytes from ≡ true → slice_index bytes from ≡ 46 → ((n : ℕ) → IsNumberRun bytes from n → n ≤ to) → from + 2 ≤ to
number_point bytes from to begins point longest =
    let m = point_goes_on bytes from begins point in
    let le = longest m.0 m.1 in
    let two = m.2 in
    omega (arith, le, two)
