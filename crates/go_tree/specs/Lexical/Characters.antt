-- Source code representation (Go specification): "Characters", "Letters and digits"; "Tokens" (white space).
-- Decides which character stands at an offset, and what letters, digits and white space are.
use Prim.Native.Char.{code}
use Rattle.std.specs.Prelude.{◌≡◌, ℕ, ◌+◌, ◌-◌, ◌<◌, ◌==◌, ◌&&◌, ◌||◌, nat_lt, Bool, true, false, List, drop, length, Option, Some, None, slice_index}
use Rattle.bstr.specs.Utf8.{Decoded, decoded}
use Rattle.ucd_category.specs.declared.GeneralCategory.{GeneralCategory}
use Rattle.ucd_category.specs.declared.GeneralCategory.TheVariants.{UppercaseLetter, LowercaseLetter, TitlecaseLetter, ModifierLetter, OtherLetter, DecimalNumber}
use Rattle.ucd_category.specs.GeneralCategory.{general_category}

-- the character whose UTF-8 begins at an offset, where one does, and the bytes that it takes
abbrev pub decoded_at : List ℕ → ℕ → Decoded
decoded_at bytes at = decoded (drop at bytes)

-- unicode_letter: "a Unicode code point categorized as Letter", Lu, Ll, Lt, Lm or Lo
abbrev pub is_letter_category : GeneralCategory → Bool
is_letter_category UppercaseLetter = true
is_letter_category LowercaseLetter = true
is_letter_category TitlecaseLetter = true
is_letter_category ModifierLetter = true
is_letter_category OtherLetter = true
is_letter_category _ = false

-- unicode_digit: "a Unicode code point categorized as Number, decimal digit", Nd
abbrev pub is_digit_category : GeneralCategory → Bool
is_digit_category DecimalNumber = true
is_digit_category _ = false

-- letter = unicode_letter | "_"
abbrev pub is_letter : ℕ → Bool
is_letter c = (c == code "_") || is_letter_category (general_category c)

abbrev pub is_letter_or_digit : ℕ → Bool
is_letter_or_digit c = is_letter c || is_digit_category (general_category c)

-- "White space, formed from spaces (U+0020), horizontal tabs (U+0009), carriage returns (U+000D), and newlines (U+000A)"
abbrev pub is_white_space : ℕ → Bool
is_white_space b = (b == code " ") || ((b == code "\t") || ((b == code "\r") || (b == code "\n")))

-- U+FEFF
abbrev pub byte_order_mark : ℕ
byte_order_mark = 65279

-- a character that may stand anywhere in a comment: not NUL and no byte order mark
abbrev pub is_allowed : ℕ → Bool
is_allowed c = nat_lt 0 c && (nat_lt c byte_order_mark || nat_lt byte_order_mark c)

-- no character, NUL, or a byte order mark that is not the first character of the file
abbrev pub is_forbidden : ℕ → Option ℕ → Bool
is_forbidden at None = true
is_forbidden at (Some c) = (c == 0) || ((c == byte_order_mark) && nat_lt 0 at)

-- such a byte stands at the offset
abbrev pub IsForbidden : List ℕ → ℕ → Type 0
IsForbidden bytes at = (at < length bytes) × (is_forbidden at (decoded_at bytes at).char ≡ true)

-- from `from` up to `to` stand whole characters, each of which passes the test with the byte before it
pub data Run (passes : ℕ → ℕ → Bool) (bytes : List ℕ) (from : ℕ) : ℕ → Type 0 where
  none : Run passes bytes from from
  more : {at c : ℕ} → Run passes bytes from at → (decoded_at bytes at).char ≡ Some c → passes (slice_index bytes (at - 1)) c ≡ true → Run passes bytes from (at + (decoded_at bytes at).size)

-- no character that passes stands at the offset
abbrev pub Ends : (ℕ → ℕ → Bool) → List ℕ → ℕ → Type 0
Ends p bytes at = (c : ℕ) → (decoded_at bytes at).char ≡ Some c → p (slice_index bytes (at - 1)) c ≡ true → ⊥
