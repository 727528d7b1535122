-- Numeric types (Go specification).
-- Decides which whole numbers the integer types have.
use Rattle.std.specs.Prelude.{ℕ, ℤ, pos, negsuc, neg_ℤ, ◌-◌, ◌^◌, int_le, Bool, true, false, ◌&&◌, Option, Some, None, if◌then◌else◌}
use Rattle.go_num.specs.declared.ranges.IntType.{IntType}
use Rattle.go_num.specs.declared.ranges.IntType.TheVariants.{Int, Int8, Int16, Int32, Int64, Uint, Uint8, Uint16, Uint32, Uint64, Uintptr}

-- "uint8 the set of all unsigned 8-bit integers (0 to 255)" and so on. Own: of "uint either 32 or 64 bits", "int same
-- size as uint" and "uintptr an unsigned integer large enough to store the uninterpreted bits of a pointer value" each
-- has 64 bits
abbrev pub width : IntType → ℕ
width Int = 64
width Int8 = 8
width Int16 = 16
width Int32 = 32
width Int64 = 64
width Uint = 64
width Uint8 = 8
width Uint16 = 16
width Uint32 = 32
width Uint64 = 64
width Uintptr = 64

-- "int8 the set of all signed 8-bit integers (-128 to 127)"
abbrev pub is_signed : IntType → Bool
is_signed Int = true
is_signed Int8 = true
is_signed Int16 = true
is_signed Int32 = true
is_signed Int64 = true
is_signed Uint = false
is_signed Uint8 = false
is_signed Uint16 = false
is_signed Uint32 = false
is_signed Uint64 = false
is_signed Uintptr = false

-- "The value of an n-bit integer is n bits wide and represented using two's complement arithmetic."
abbrev pub least : IntType → ℤ
least t = if is_signed t then neg_ℤ (pos (2 ^ (width t - 1))) else pos 0

abbrev pub greatest : IntType → ℤ
greatest t = if is_signed t then pos (2 ^ (width t - 1) - 1) else pos (2 ^ width t - 1)

-- "m = "all bits set to 1" for unsigned x and m = -1 for signed x"; no type is that of an untyped constant, which "^x"
-- takes as signed
abbrev pub all_ones : Option IntType → ℤ
all_ones None = negsuc 0
all_ones (Some t) = if is_signed t then negsuc 0 else greatest t

-- "x is in the set of values determined by T"
abbrev pub fits : ℤ → IntType → Bool
fits a t = int_le (least t) a && int_le a (greatest t)
