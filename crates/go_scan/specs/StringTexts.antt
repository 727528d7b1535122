-- String literals (Go specification).
-- Decides for which string a text stands, as that of a tag does. Which texts are string literals, and for which string
-- each stands: `Literals` and `LiteralValues` of go_tree.
use Prim.Native.Char.{code}
use Rattle.std.specs.Prelude.{ℕ, zero, suc, ◌==◌, ◌&&◌, ◌||◌, Bool, true, false, if◌then◌else◌, Option, Some, None, List, [], ◌∷◌, take}
use Rattle.go_tree.specs.Lexical.Literals.{is_escape}
use Rattle.go_tree.specs.Lexical.LiteralValues.{escape_len, inside_of, string_lit_value}

-- each backslash behind the first `skipped` bytes begins an escape of an interpreted string
abbrev pub are_escapes : ℕ → List ℕ → Bool
are_escapes skipped [] = true
are_escapes zero (b ∷ bs) = if b == code "\\" then is_escape (code "\"") (take (escape_len bs) bs) && are_escapes (escape_len bs) bs else are_escapes 0 bs
are_escapes (suc skipped) (b ∷ bs) = are_escapes skipped bs

-- the text begins with a back quote, or is not empty and each backslash between its first and its last byte begins an escape
abbrev pub is_string : List ℕ → Bool
is_string [] = false
is_string (b ∷ bs) = (b == code "`") || are_escapes 0 (inside_of (b ∷ bs))

-- the string for which a text stands: of a string literal its value; own: none of the empty text, and of one without a back
-- quote in front in which a backslash begins no escape; no string literal is so
abbrev pub string_of : List ℕ → Option (List ℕ)
string_of text = if is_string text then Some (string_lit_value text) else None
