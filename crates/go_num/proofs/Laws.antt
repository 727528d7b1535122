-- Laws of the arithmetic of constants (Go specification, "Integer operators").
use Rattle.std.proofs.Common.{◌≡◌, ◌≢◌, ℕ, ◌<◌, ℤ, pos, negsuc, ◌+ℤ◌, ◌*ℤ◌, ◌<ℤ◌, ◌≤ℤ◌, neg_ℤ, unsigned_abs, suc, zero, ◌%◌, refl, ap, arith, zero-lt-suc}
use Rattle.std.proofs.lemmas.Int.{ints, quot-rem, rem_below}
use Rattle.go_num.specs.declared.arithmetic.IntOp.TheVariants.{Quo, Rem}
use Rattle.go_num.specs.Arithmetic.{binary_value}
use Rattle.go_num.specs.Bits.{bit}
use Rattle.go_num.proofs.BitLemmas.{same_from_digits}

-- "x = q*y + r"
pub quotient_law : (a b : ℤ) → binary_value Quo a b *ℤ b +ℤ binary_value Rem a b ≡ a
quotient_law a b = quot-rem a b

not_zero : (b : ℤ) → b ≢ pos 0 → 0 < unsigned_abs b
not_zero (pos zero) h = absurd (h refl)
not_zero (pos (suc n)) h = zero-lt-suc n
not_zero (negsuc n) h = zero-lt-suc n

-- "|r| < |y|"
pub remainder_law : (a b : ℤ) → b ≢ pos 0 → unsigned_abs (binary_value Rem a b) < unsigned_abs b
remainder_law a b h = rem_below a b (not_zero b h)

neg_below : (n : ℕ) → neg_ℤ (pos n) ≤ℤ pos 0
neg_below n = omega (arith, ints)

not_below : (n : ℕ) → pos 0 ≤ℤ pos n
not_below n = omega (arith, ints)

-- "truncated towards zero": a remainder has the sign of the dividend, or is 0
pub remainder_sign : (a b : ℤ) → (pos 0 ≤ℤ a → pos 0 ≤ℤ binary_value Rem a b) × (a <ℤ pos 0 → binary_value Rem a b ≤ℤ pos 0)
remainder_sign (pos a) b = (λ h. not_below (a % unsigned_abs b), λ h. absurd (omega (arith, ints, h)))
remainder_sign (negsuc a) b = (λ h. absurd (omega (arith, ints, h)), λ h. neg_below (suc a % unsigned_abs b))

-- two numbers with the same binary digits are equal
pub same_bits : (a b : ℤ) → ((i : ℕ) → bit a i ≡ bit b i) → a ≡ b
same_bits a b h = same_from_digits a b h
