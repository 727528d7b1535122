-- Integer literals; Floating-point literals; Imaginary literals (Go specification).
-- Decides which texts are number literals, and how far a number runs. Which number an integer
-- literal stands for: `LiteralValues`.
use Prim.Native.Char.{code}
use Rattle.std.specs.Prelude.{◌≡◌, ℕ, ◌+◌, ◌-◌, ◌==◌, ◌&&◌, ◌||◌, nat_le, not, Bool, true, false, if◌then◌else◌, List, [], ◌∷◌, length, take, drop, take_while, Option, Some, None, slice_index}
use Rattle.go_tree.specs.declared.token.TokenKind.{TokenKind}
use Rattle.go_tree.specs.declared.token.TokenKind.TheVariants.{Int, Float}
use Rattle.go_tree.specs.Lexical.Characters.{is_letter_or_digit, Run}

-- decimal_digit, binary_digit, octal_digit, hex_digit
abbrev pub is_decimal : ℕ → Bool
is_decimal b = nat_le (code "0") b && nat_le b (code "9")

abbrev pub is_binary : ℕ → Bool
is_binary b = nat_le (code "0") b && nat_le b (code "1")

abbrev pub is_octal : ℕ → Bool
is_octal b = nat_le (code "0") b && nat_le b (code "7")

abbrev pub is_hex : ℕ → Bool
is_hex b = is_decimal b || ((nat_le (code "A") b && nat_le b (code "F")) || (nat_le (code "a") b && nat_le b (code "f")))

-- the letter, small or capital, where `small` is the small one
abbrev pub is_either : ℕ → ℕ → Bool
is_either small b = (b == small) || (b + (code "a" - code "A") == small)

-- decimal_digits = decimal_digit { [ "_" ] decimal_digit }, and so for the other digits
abbrev mutual
  pub is_digits : (ℕ → Bool) → List ℕ → Bool
  is_digits p [] = false
  is_digits p (b ∷ bs) = p b && are_more_digits p bs

  pub are_more_digits : (ℕ → Bool) → List ℕ → Bool
  are_more_digits p [] = true
  are_more_digits p (b ∷ bs) = if b == code "_" then is_digits p bs else (p b && are_more_digits p bs)

-- [ "_" ] digits
abbrev pub is_digits_behind_prefix : (ℕ → Bool) → List ℕ → Bool
is_digits_behind_prefix p [] = false
is_digits_behind_prefix p (b ∷ bs) = if b == code "_" then is_digits p bs else is_digits p (b ∷ bs)

-- decimal_lit = "0" | ( "1" … "9" ) [ [ "_" ] decimal_digits ]
-- binary_lit = "0" ( "b" | "B" ) [ "_" ] binary_digits
-- octal_lit = "0" [ "o" | "O" ] [ "_" ] octal_digits
-- hex_lit = "0" ( "x" | "X" ) [ "_" ] hex_digits
abbrev pub is_behind_zero : List ℕ → Bool
is_behind_zero [] = true
is_behind_zero (c ∷ bs) =
    if is_either (code "b") c then is_digits_behind_prefix is_binary bs
    else (if is_either (code "o") c then is_digits_behind_prefix is_octal bs
    else (if is_either (code "x") c then is_digits_behind_prefix is_hex bs
    else is_digits_behind_prefix is_octal (c ∷ bs)))

-- int_lit = decimal_lit | binary_lit | octal_lit | hex_lit
abbrev pub is_int_lit : List ℕ → Bool
is_int_lit [] = false
is_int_lit (b ∷ bs) = if b == code "0" then is_behind_zero bs else is_digits is_decimal (b ∷ bs)

-- the front of a text that is digits and `_`, and what stands behind it
abbrev pub digit_front : (ℕ → Bool) → List ℕ → List ℕ
digit_front p text = take_while (λ b. p b || (b == code "_")) text

abbrev pub behind_digits : (ℕ → Bool) → List ℕ → List ℕ
behind_digits p text = drop (length (digit_front p text)) text

abbrev pub is_empty : List ℕ → Bool
is_empty [] = true
is_empty (b ∷ bs) = false

-- [ "+" | "-" ] decimal_digits
abbrev pub is_signed_digits : List ℕ → Bool
is_signed_digits [] = false
is_signed_digits (b ∷ bs) = if (b == code "+") || (b == code "-") then is_digits is_decimal bs else is_digits is_decimal (b ∷ bs)

-- decimal_exponent = ( "e" | "E" ) [ "+" | "-" ] decimal_digits
-- hex_exponent = ( "p" | "P" ) [ "+" | "-" ] decimal_digits
abbrev pub is_exponent : ℕ → List ℕ → Bool
is_exponent small [] = false
is_exponent small (b ∷ bs) = is_either small b && is_signed_digits bs

-- "one of the integer part or the fractional part may be elided"
abbrev pub is_mantissa : (List ℕ → Bool) → (ℕ → Bool) → List ℕ → List ℕ → Bool
is_mantissa is_whole p whole fraction =
    (is_empty whole || is_whole whole) && ((is_empty fraction || is_digits p fraction) && not (is_empty whole && is_empty fraction))

-- behind the integer part: a point, a fraction and the end or an exponent; or an exponent
abbrev pub is_behind_whole : (List ℕ → Bool) → (ℕ → Bool) → ℕ → Bool → List ℕ → List ℕ → Bool
is_behind_whole is_whole p small elided whole [] = false
is_behind_whole is_whole p small elided whole (b ∷ bs) =
    if b == code "."
    then is_mantissa is_whole p whole (digit_front p bs) && (is_exponent small (behind_digits p bs) || (elided && is_empty (behind_digits p bs)))
    else is_whole whole && is_exponent small (b ∷ bs)

-- decimal_float_lit = decimal_digits "." [ decimal_digits ] [ decimal_exponent ] |
--   decimal_digits decimal_exponent | "." decimal_digits [ decimal_exponent ]
abbrev pub is_decimal_float_lit : List ℕ → Bool
is_decimal_float_lit text = is_behind_whole (is_digits is_decimal) is_decimal (code "e") true (digit_front is_decimal text) (behind_digits is_decimal text)

-- hex_float_lit = "0" ( "x" | "X" ) hex_mantissa hex_exponent
-- hex_mantissa = [ "_" ] hex_digits "." [ hex_digits ] | [ "_" ] hex_digits | "." hex_digits
abbrev pub is_hex_float_lit : List ℕ → Bool
is_hex_float_lit [] = false
is_hex_float_lit (b ∷ []) = false
is_hex_float_lit (b ∷ c ∷ bs) = (b == code "0") && (is_either (code "x") c && is_behind_whole (is_digits_behind_prefix is_hex) is_hex (code "p") false (digit_front is_hex bs) (behind_digits is_hex bs))

-- float_lit = decimal_float_lit | hex_float_lit
abbrev pub is_float_lit : List ℕ → Bool
is_float_lit text = is_decimal_float_lit text || is_hex_float_lit text

-- imaginary_lit = ( decimal_digits | int_lit | float_lit ) "i"
abbrev pub is_imaginary_lit : List ℕ → Bool
is_imaginary_lit text = (slice_index text (length text - 1) == code "i") && is_before_i (take (length text - 1) text)
  where
    is_before_i : List ℕ → Bool
    is_before_i body = is_digits is_decimal body || (is_int_lit body || is_float_lit body)

-- the kind of the literal that a text is, where it is one
abbrev pub number_kind : List ℕ → Option TokenKind
number_kind text = if is_int_lit text then Some Int else (if is_float_lit text || is_imaginary_lit text then Some Float else None)

-- own: a number begins with an ASCII digit, or with `.` before one
abbrev pub begins_number : List ℕ → ℕ → Bool
begins_number bytes at = is_decimal (slice_index bytes at) || ((slice_index bytes at == code ".") && is_decimal (slice_index bytes (at + 1)))

-- `0x` or `0X` stands at the offset
abbrev pub is_hexadecimal : List ℕ → ℕ → Bool
is_hexadecimal bytes at = (slice_index bytes at == code "0") && is_either (code "x") (slice_index bytes (at + 1))

-- own: it runs on over letters, digits, `_` and `.`, and over a sign that stands directly after `p`,
-- or outside hexadecimal after `e`
abbrev pub goes_on : Bool → ℕ → ℕ → Bool
goes_on hexadecimal before c =
    is_letter_or_digit c || ((c == code ".") || (((c == code "+") || (c == code "-")) && (is_either (code "p") before || (is_either (code "e") before && not hexadecimal))))

-- a number runs from `from` up to `to`, or further
abbrev pub IsNumberRun : List ℕ → ℕ → ℕ → Type 0
IsNumberRun bytes from to = (begins_number bytes from ≡ true) × Run (goes_on (is_hexadecimal bytes from)) bytes (from + 1) to
