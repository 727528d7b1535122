-- Digits of the bases that number literals are written in.
-- Says for each base which bytes are its digits, how many it has, and what a floating-point literal in it is made of.
use Prim.Native.Char.{code}
use Rattle.std.specs.Prelude.{ℕ, ◌+◌, ◌*◌, ◌==◌, Bool, true, false, if◌then◌else◌, List}
use Rattle.go_tree.specs.Lexical.Numbers.{is_binary, is_octal, is_decimal, is_hex, is_digits, is_digits_behind_prefix}
use Rattle.go_tree.specs.Lexical.Literals.{digit_value}
use Rattle.go_scan.specs.declared.digits.Base.{Base}
use Rattle.go_scan.specs.declared.digits.Base.TheVariants.{Binary, Octal, Decimal, Hex}

abbrev pub is_digit_of : Base → ℕ → Bool
is_digit_of Binary = is_binary
is_digit_of Octal = is_octal
is_digit_of Decimal = is_decimal
is_digit_of Hex = is_hex

abbrev pub size_of_base : Base → ℕ
size_of_base Binary = 2
size_of_base Octal = 8
size_of_base Decimal = 10
size_of_base Hex = 16

-- the integer part of a floating-point literal
abbrev pub is_whole_of : Base → List ℕ → Bool
is_whole_of Hex = is_digits_behind_prefix is_hex
is_whole_of base = is_digits (is_digit_of base)

-- the letter that opens its exponent
abbrev pub exponent_letter : Base → ℕ
exponent_letter Hex = code "p"
exponent_letter base = code "e"

-- whether it may lack an exponent behind its point
abbrev pub may_lack_exponent : Base → Bool
may_lack_exponent Hex = false
may_lack_exponent base = true

-- the number that one more digit writes
abbrev pub next_number : ℕ → ℕ → ℕ → ℕ
next_number size n b = if b == code "_" then n else n * size + digit_value b
