-- String concatenation; Conversions to and from a string type; Rune literals (Go specification).
-- Decides how many bytes a string constant can have, and which string a whole number gives.
use Rattle.std.specs.Prelude.{ℕ, ℤ, pos, negsuc, Bool, ◌||◌, List, if◌then◌else◌, encode_utf8}
use Rattle.std.specs.Int.{is_in_range}

-- own: a string constant has at most so many bytes
abbrev pub most_text : ℕ
most_text = 1_048_576

-- a valid Unicode code point: not above 0x10FFFF, and no surrogate half, as 0xD800 to 0xDFFF are
abbrev pub is_code_point : ℕ → Bool
is_code_point code = is_in_range 0 0xD7FF code || is_in_range 0xE000 0x10_FFFF code

-- the character of a number: "Values outside the range of valid Unicode code points are converted
-- to "\uFFFD"."
abbrev pub character_of : ℤ → ℕ
character_of (pos code) = if is_code_point code then code else 0xFFFD
character_of (negsuc _) = 0xFFFD

-- the string of a number: the UTF-8 of its character
abbrev pub rune_value : ℤ → List ℕ
rune_value code = encode_utf8 (character_of code)
