-- Operators; Integer operators; Constant expressions (Go specification).
-- Decides the value of a shift of an integer constant, over all whole numbers, and why it has none.
use Rattle.std.specs.Prelude.{ℕ, ℤ, pos, negsuc, ◌*ℤ◌, ◌^◌, nat_lt, Bool, true, false, Result, Err, if◌then◌else◌}
use Rattle.std.specs.Int.{int_div_euclid}
use Rattle.go_num.specs.declared.arithmetic.NumFault.{NumFault}
use Rattle.go_num.specs.declared.arithmetic.NumFault.TheVariants.{Count}
use Rattle.go_num.specs.Arithmetic.{limited, within}

-- "Shifts behave as if the left operand is shifted n times by 1 for a shift count of n. As a result, x << 1 is the same
-- as x*2 and x >> 1 is the same as x/2 but truncated towards negative infinity."
abbrev pub shift_value : Bool → ℤ → ℕ → ℤ
shift_value true a n = a *ℤ pos (2 ^ n)
shift_value false a n = int_div_euclid a (pos (2 ^ n))

-- "The right operand in a shift expression must have integer type or be an untyped constant representable by a value of
-- type uint."
abbrev pub shift_result : Bool → ℤ → ℤ → Result ℤ NumFault
shift_result left a (pos n) = if nat_lt n (2 ^ 64) then within (limited (shift_value left a n)) else Err Count
shift_result left a (negsuc _) = Err Count
