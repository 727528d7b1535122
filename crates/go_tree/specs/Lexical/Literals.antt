-- Rune literals; String literals (Go specification).
-- Decides where rune and string literals stand. What they stand for: `LiteralValues`.
use Prim.Native.Char.{code}
use Rattle.std.specs.Prelude.{◌≡◌, ℕ, ◌+◌, ◌-◌, ◌*◌, ◌≤◌, ◌==◌, ◌&&◌, ◌||◌, nat_le, nat_lt, not, Bool, true, false, if◌then◌else◌, List, [], ◌∷◌, length, fold, codes, Some, slice_index, slice_range}
use Rattle.std.specs.List.{list_any, list_all}
use Rattle.go_tree.specs.Lexical.Characters.{decoded_at, is_allowed, Run}
use Rattle.go_tree.specs.Lexical.Numbers.{is_hex, is_octal, is_empty}

-- what a digit of a base up to 16 counts
abbrev pub digit_value : ℕ → ℕ
digit_value b = if nat_le b (code "9") then b - code "0" else (if nat_le b (code "F") then b - (code "A" - 10) else b - (code "a" - 10))

-- the number that digits write in a base; a `_` among them counts nothing
abbrev pub number_in : ℕ → List ℕ → ℕ
number_in base = fold (λ n b. if b == code "_" then n else n * base + digit_value b) 0

-- a code point that is no surrogate and not past 10FFFF
abbrev pub is_valid_code_point : ℕ → Bool
is_valid_code_point c = nat_lt c 55296 || (nat_lt 57343 c && nat_lt c 1114112)

-- `\a`, `\b`, `\f`, `\n`, `\r`, `\t`, `\v`, `\\` and the literal's own quote
abbrev pub is_simple_escape : ℕ → ℕ → Bool
is_simple_escape quote e = (e == quote) || list_any (λ x. x == e) (codes "abfnrtv\\")

abbrev pub are_hex : ℕ → List ℕ → Bool
are_hex n xs = (length xs == n) && list_all is_hex xs

-- big_u_value and little_u_value: n hexadecimal digits; "illegal: surrogate half" and
-- "illegal: invalid Unicode code point" are none
abbrev pub are_code_point : ℕ → List ℕ → Bool
are_code_point n xs = are_hex n xs && is_valid_code_point (number_in 16 xs)

-- octal_byte_value: three octal digits that write at most 255
abbrev pub is_octal_byte : List ℕ → Bool
is_octal_byte xs = (length xs == 3) && (list_all is_octal xs && nat_le (number_in 8 xs) 255)

-- what stands behind the backslash of an escape, in a literal with that quote
abbrev pub is_escape : ℕ → List ℕ → Bool
is_escape quote [] = false
is_escape quote (e ∷ xs) =
    (is_simple_escape quote e && is_empty xs)
    || (is_octal_byte (e ∷ xs)
    || (((e == code "x") && are_hex 2 xs)
    || (((e == code "u") && are_code_point 4 xs)
    || ((e == code "U") && are_code_point 8 xs))))

-- a character that stands for itself: not the quote, no backslash and no newline
abbrev pub is_itself : ℕ → ℕ → Bool
is_itself quote c = is_allowed c && (not (c == quote) && (not (c == code "\\") && not (c == code "\n")))

-- one character of a literal stands from `from` up to `to`: itself, or an escape
pub data IsCharacter (quote : ℕ) (bytes : List ℕ) (from : ℕ) : ℕ → Type 0 where
  itself : {c : ℕ} → (decoded_at bytes from).char ≡ Some c → is_itself quote c ≡ true → IsCharacter quote bytes from (from + (decoded_at bytes from).size)
  escaped : {to : ℕ} → slice_index bytes from ≡ code "\\" → to ≤ length bytes → is_escape quote (slice_range bytes (from + 1) to) ≡ true → IsCharacter quote bytes from to

-- characters of a literal stand from `from` up to `to`
pub data AreCharacters (quote : ℕ) (bytes : List ℕ) (from : ℕ) : ℕ → Type 0 where
  none : AreCharacters quote bytes from from
  more : {at to : ℕ} → AreCharacters quote bytes from at → IsCharacter quote bytes at to → AreCharacters quote bytes from to

-- rune_lit = "'" ( unicode_value | byte_value ) "'"
pub record IsRuneLit (bytes : List ℕ) (from to : ℕ) : Type 0 where
  pub opens : slice_index bytes from ≡ code "'"
  pub close : ℕ
  pub inside : IsCharacter (code "'") bytes (from + 1) close
  pub closes : slice_index bytes close ≡ code "'"
  pub ends : to ≡ close + 1

-- interpreted_string_lit = `"` { unicode_value | byte_value } `"`
pub record IsInterpretedLit (bytes : List ℕ) (from to : ℕ) : Type 0 where
  pub opens : slice_index bytes from ≡ code "\""
  pub close : ℕ
  pub inside : AreCharacters (code "\"") bytes (from + 1) close
  pub closes : slice_index bytes close ≡ code "\""
  pub ends : to ≡ close + 1

-- "any character may appear except back quote"
abbrev pub in_raw : ℕ → ℕ → Bool
in_raw before c = is_allowed c && not (c == code "`")

-- raw_string_lit = "`" { unicode_char | newline } "`"
pub record IsRawLit (bytes : List ℕ) (from to : ℕ) : Type 0 where
  pub opens : slice_index bytes from ≡ code "`"
  pub close : ℕ
  pub inside : Run in_raw bytes (from + 1) close
  pub closes : slice_index bytes close ≡ code "`"
  pub ends : to ≡ close + 1
