-- The text of strings.
-- Decides how the bytes of a string read, whole, and where only the first are printed.
use Prim.Native.Char.{code}
use Rattle.std.specs.Prelude.{ℕ, ◌+◌, ◌-◌, ◌/◌, ◌%◌, ◌==◌, nat_le, nat_lt, ◌&&◌, ◌||◌, if◌then◌else◌, List, [], ◌∷◌, ◌++◌, length, take, decimal}
use Rattle.std.specs.List.{flat_map}

-- two digits in base 16
abbrev pub digit_text : ℕ → ℕ
digit_text digit = if nat_lt digit 10 then code "0" + digit else (code "a" - 10) + digit

-- a byte of a string: one outside 20 to 7E in base 16; a quote and a `\` behind a `\`
abbrev pub byte_text : ℕ → List ℕ
byte_text b =
    if (b == code "\"") || (b == code "\\") then code "\\" ∷ b ∷ []
    else if nat_le (code " ") b && nat_le b (code "~") then b ∷ []
    else code "\\" ∷ code "x" ∷ digit_text (b / 16) ∷ digit_text (b % 16) ∷ []

-- in double quotes
abbrev pub quoted : List ℕ → List ℕ
quoted text = code "\"" ∷ (flat_map byte_text text ++ code "\"" ∷ [])

-- of a longer string the number of the bytes that are left out
abbrev pub most_printed : ℕ
most_printed = 64

abbrev pub rest_text : ℕ → List ℕ
rest_text size = if nat_lt most_printed size then code "+" ∷ decimal (size - most_printed) else []

abbrev pub string_text : List ℕ → List ℕ
string_text text = code "\"" ∷ (flat_map byte_text (take most_printed text) ++ code "\"" ∷ rest_text (length text))
