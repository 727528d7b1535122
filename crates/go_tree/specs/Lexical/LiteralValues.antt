-- Integer literals; Rune literals; String literals (Go specification).
-- Decides what a literal stands for. Which texts are literals: `Numbers`, `Literals`.
use Prim.Native.Char.{code}
use Rattle.std.specs.Prelude.{ℕ, zero, suc, ◌-◌, ◌==◌, ◌||◌, not, Bool, if◌then◌else◌, List, [], ◌∷◌, ◌++◌, length, take, filter, slice_range, encode_utf8}
use Rattle.bstr.specs.Utf8.{decoded, or_replacement}
use Rattle.go_tree.specs.declared.token.TokenKind.{TokenKind}
use Rattle.go_tree.specs.declared.token.TokenKind.TheVariants.{Rune}
use Rattle.go_tree.specs.Lexical.Numbers.{is_either, is_octal}
use Rattle.go_tree.specs.Lexical.Literals.{number_in}

-- the value of an integer literal, by its prefix
abbrev pub value_behind_zero : List ℕ → ℕ
value_behind_zero [] = 0
value_behind_zero (c ∷ bs) =
    if is_either (code "b") c then number_in 2 bs
    else (if is_either (code "o") c then number_in 8 bs
    else (if is_either (code "x") c then number_in 16 bs
    else number_in 8 (c ∷ bs)))

abbrev pub int_lit_value : List ℕ → ℕ
int_lit_value [] = 0
int_lit_value (b ∷ bs) = if b == code "0" then value_behind_zero bs else number_in 10 (b ∷ bs)

-- what a simple escape stands for
abbrev pub simple_value : ℕ → ℕ
simple_value e =
    if e == code "a" then 7
    else (if e == code "b" then 8
    else (if e == code "f" then 12
    else (if e == code "n" then 10
    else (if e == code "r" then 13
    else (if e == code "t" then 9
    else (if e == code "v" then 11
    else e))))))

-- `\x`, `\u` or `\U`, by what follows the backslash
abbrev pub is_hex_escape : ℕ → Bool
is_hex_escape e = (e == code "x") || is_either (code "u") e

-- the number that an escape stands for: what follows its backslash
abbrev pub escape_value : List ℕ → ℕ
escape_value [] = 0
escape_value (e ∷ xs) = if is_hex_escape e then number_in 16 xs else (if is_octal e then number_in 8 (e ∷ xs) else simple_value e)

-- the inside of a rune literal stands for a code point
abbrev pub code_point_of : List ℕ → ℕ
code_point_of [] = 0
code_point_of (b ∷ bs) = if b == code "\\" then escape_value bs else or_replacement (decoded (b ∷ bs)).char

-- what stands between the quotes of a literal
abbrev pub inside_of : List ℕ → List ℕ
inside_of text = slice_range text 1 (length text - 1)

abbrev pub rune_lit_value : List ℕ → ℕ
rune_lit_value text = code_point_of (inside_of text)

-- the number that an integer or rune literal stands for, by its kind
abbrev pub literal_number : TokenKind → List ℕ → ℕ
literal_number Rune text = rune_lit_value text
literal_number _ text = int_lit_value text

-- how many bytes an escape has behind its backslash
abbrev pub escape_len : List ℕ → ℕ
escape_len [] = 0
escape_len (e ∷ xs) = if (e == code "x") || is_octal e then 3 else (if e == code "u" then 5 else (if e == code "U" then 9 else 1))

-- the bytes that an escape stands for: one byte, or of `\u` and `\U` those of the character
abbrev pub escape_text : List ℕ → List ℕ
escape_text [] = []
escape_text (e ∷ xs) = if is_either (code "u") e then encode_utf8 (number_in 16 xs) else escape_value (e ∷ xs) ∷ []

-- the bytes that the inside of an interpreted string stands for, from behind its first `skipped` bytes on
abbrev pub unescaped : ℕ → List ℕ → List ℕ
unescaped skipped [] = []
unescaped zero (b ∷ bs) = if b == code "\\" then escape_text (take (escape_len bs) bs) ++ unescaped (escape_len bs) bs else b ∷ unescaped 0 bs
unescaped (suc skipped) (b ∷ bs) = unescaped skipped bs

-- "Carriage return characters ('\r') inside raw string literals are discarded"
abbrev pub without_returns : List ℕ → List ℕ
without_returns = filter (λ b. not (b == code "\r"))

-- the bytes of the string that a string literal stands for
abbrev pub string_lit_value : List ℕ → List ℕ
string_lit_value [] = []
string_lit_value (b ∷ bs) = if b == code "`" then without_returns (inside_of (b ∷ bs)) else unescaped 0 (inside_of (b ∷ bs))
