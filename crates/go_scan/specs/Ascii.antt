-- Letters among the first 128 characters.
-- Says which they are, so that they need no table, and which of them begin a keyword.
use Prim.Native.Char.{code}
use Rattle.std.specs.Prelude.{ℕ, ◌==◌, ◌&&◌, ◌||◌, nat_le, Bool}

-- `a` to `z`
abbrev pub is_small_letter : ℕ → Bool
is_small_letter b = nat_le (code "a") b && nat_le b (code "z")

-- `A` to `Z`, `a` to `z` and `_`
abbrev pub is_ascii_letter : ℕ → Bool
is_ascii_letter c = (nat_le (code "A") c && nat_le c (code "Z")) || ((nat_le (code "a") c && nat_le c (code "z")) || (c == code "_"))
