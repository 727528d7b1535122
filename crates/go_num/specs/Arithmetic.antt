-- Arithmetic operators; Integer operators; Constant expressions (Go specification).
-- Decides the value of an operation on integer constants, over all whole numbers, which of them a constant can have,
-- and why an operation has no value.
use Rattle.std.specs.Prelude.{ℕ, ℤ, pos, negsuc, ◌+ℤ◌, ◌-ℤ◌, ◌*ℤ◌, int_div, int_rem, ◌^◌, ◌==◌, nat_lt, Bool, false, Option, Some, None, Result, Err, ok_or, if◌then◌else◌}
use Rattle.go_num.specs.declared.arithmetic.IntOp.{IntOp}
use Rattle.go_num.specs.declared.arithmetic.IntOp.TheVariants.{Add, Sub, Mul, Quo, Rem, And, Or, Xor, AndNot}
use Rattle.go_num.specs.declared.arithmetic.NumFault.{NumFault}
use Rattle.go_num.specs.declared.arithmetic.NumFault.TheVariants.{Wide, Zero}
use Rattle.go_num.specs.declared.ranges.IntType.{IntType}
use Rattle.go_num.specs.declared.unary.UnOp.{UnOp}
use Rattle.go_num.specs.declared.unary.UnOp.TheVariants.{Plus, Minus, Not}
use Rattle.go_num.specs.Bits.{and_value, or_value, xor_value, and_not_value}
use Rattle.go_num.specs.Ranges.{all_ones}

-- "+ sum", "- difference", "* product"; "For two integer values x and y, the integer quotient q = x / y and remainder
-- r = x % y satisfy the following relationships: x = q*y + r and |r| < |y| with x / y truncated towards zero";
-- "& bitwise AND", "| bitwise OR", "^ bitwise XOR", "&^ bit clear (AND NOT)"
abbrev pub binary_value : IntOp → ℤ → ℤ → ℤ
binary_value Add a b = a +ℤ b
binary_value Sub a b = a -ℤ b
binary_value Mul a b = a *ℤ b
binary_value Quo a b = int_div a b
binary_value Rem a b = int_rem a b
binary_value And a b = and_value a b
binary_value Or a b = or_value a b
binary_value Xor a b = xor_value a b
binary_value AndNot a b = and_not_value a b

-- own: a constant is a whole number from -2^127 to 2^127-1
abbrev pub limited : ℤ → Option ℤ
limited (pos n) = if nat_lt n (2 ^ 127) then Some (pos n) else None
limited (negsuc n) = if nat_lt n (2 ^ 127) then Some (negsuc n) else None

abbrev pub is_zero : ℤ → Bool
is_zero (pos n) = n == 0
is_zero (negsuc _) = false

-- "If the divisor is a constant, it must not be zero."
abbrev pub divides_by_zero : IntOp → ℤ → Bool
divides_by_zero Add b = false
divides_by_zero Sub b = false
divides_by_zero Mul b = false
divides_by_zero Quo b = is_zero b
divides_by_zero Rem b = is_zero b
divides_by_zero And b = false
divides_by_zero Or b = false
divides_by_zero Xor b = false
divides_by_zero AndNot b = false

-- own: a value outside the limits is told apart from a division by zero
abbrev pub within : Option ℤ → Result ℤ NumFault
within value = ok_or value Wide

abbrev pub binary_result : IntOp → ℤ → ℤ → Result ℤ NumFault
binary_result op a b = if divides_by_zero op b then Err Zero else within (limited (binary_value op a b))

-- "+x is 0 + x", "-x negation is 0 - x", "^x bitwise complement is m ^ x with m = "all bits set to 1" for unsigned x
-- and m = -1 for signed x"
abbrev pub unary_value : UnOp → Option IntType → ℤ → ℤ
unary_value Plus of a = pos 0 +ℤ a
unary_value Minus of a = pos 0 -ℤ a
unary_value Not of a = xor_value (all_ones of) a

abbrev pub unary_result : UnOp → Option IntType → ℤ → Result ℤ NumFault
unary_result op of a = within (limited (unary_value op of a))
