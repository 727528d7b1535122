-- Integer operators (Go specification).
-- Decides the binary digits of a whole number and what the bitwise operators make of them: two's complement, of as
-- many digits as are wanted.
use Rattle.std.specs.Prelude.{ℕ, ℤ, pos, negsuc, ◌≡◌, ◌==◌, Bool, true, false, not, ◌&&◌, ◌||◌, bit_and, bit_or, bit_xor, ⊤}
use Rattle.std.specs.Int.{bit_at}
use Rattle.go_num.specs.declared.arithmetic.IntOp.{IntOp}
use Rattle.go_num.specs.declared.arithmetic.IntOp.TheVariants.{Add, Sub, Mul, Quo, Rem, And, Or, Xor, AndNot}

-- own: whether the binary digit at place i of a natural number is 1
abbrev pub is_set : ℕ → ℕ → Bool
is_set n i = bit_at n i == 1

-- own: the same of any whole number; -(n + 1) has the digits that n has not
abbrev pub bit : ℤ → ℕ → Bool
bit (pos n) i = is_set n i
bit (negsuc n) i = not (is_set n i)

-- own: the digits of a that b has not
abbrev pub bits_without : ℕ → ℕ → ℕ
bits_without a b = bit_and a (bit_xor a b)

-- own: just one of the two holds
abbrev pub exclusive_or : Bool → Bool → Bool
exclusive_or true q = not q
exclusive_or false q = q

-- own: every digit is the other one
abbrev pub not_value : ℤ → ℤ
not_value (pos n) = negsuc n
not_value (negsuc n) = pos n

-- "& bitwise AND"
abbrev pub and_value : ℤ → ℤ → ℤ
and_value (pos a) (pos b) = pos (bit_and a b)
and_value (pos a) (negsuc b) = pos (bits_without a b)
and_value (negsuc a) (pos b) = pos (bits_without b a)
and_value (negsuc a) (negsuc b) = negsuc (bit_or a b)

-- "| bitwise OR"
abbrev pub or_value : ℤ → ℤ → ℤ
or_value (pos a) (pos b) = pos (bit_or a b)
or_value (pos a) (negsuc b) = negsuc (bits_without b a)
or_value (negsuc a) (pos b) = negsuc (bits_without a b)
or_value (negsuc a) (negsuc b) = negsuc (bit_and a b)

-- "^ bitwise XOR"
abbrev pub xor_value : ℤ → ℤ → ℤ
xor_value (pos a) (pos b) = pos (bit_xor a b)
xor_value (pos a) (negsuc b) = negsuc (bit_xor a b)
xor_value (negsuc a) (pos b) = negsuc (bit_xor a b)
xor_value (negsuc a) (negsuc b) = pos (bit_xor a b)

-- "&^ bit clear (AND NOT)"
abbrev pub and_not_value : ℤ → ℤ → ℤ
and_not_value a b = and_value a (not_value b)

-- own: each digit of v is that function of those of a and b at its place
abbrev pub HasBits : (Bool → Bool → Bool) → ℤ → ℤ → ℤ → Type 0
HasBits f a b v = (i : ℕ) → bit v i ≡ f (bit a i) (bit b i)

-- "bitwise": what the digits of the value of a bitwise operator are. Of the arithmetic operators it says nothing
abbrev pub IsBitwise : IntOp → ℤ → ℤ → ℤ → Type 0
IsBitwise Add a b v = ⊤
IsBitwise Sub a b v = ⊤
IsBitwise Mul a b v = ⊤
IsBitwise Quo a b v = ⊤
IsBitwise Rem a b v = ⊤
IsBitwise And a b v = HasBits (λ p q. p && q) a b v
IsBitwise Or a b v = HasBits (λ p q. p || q) a b v
IsBitwise Xor a b v = HasBits (λ p q. exclusive_or p q) a b v
IsBitwise AndNot a b v = HasBits (λ p q. p && not q) a b v
