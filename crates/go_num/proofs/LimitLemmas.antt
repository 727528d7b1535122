-- Lemmas on the limits of constants, and on values that are within them.
use Rattle.std.proofs.Common.{◌≡◌, ℕ, ◌^◌, ◌<◌, ◌≤◌, ℤ, pos, negsuc, Bool, true, false, FitsSigned, SomeIff, Option, Some, None, Result, IfOk, if◌then◌else◌, nat_lt, ap, sym, ◌∙◌, subst, arith, lt-ltb, le-ltb}
use Rattle.std.specs.Int.{w128}
use Rattle.go_num.specs.declared.arithmetic.NumFault.{NumFault}
use Rattle.go_num.specs.Arithmetic.{limited, within}

some_below : (n : ℕ) (z : ℤ) → n < 2 ^ 127 → (if nat_lt n (2 ^ 127) then Some z else None) ≡ Some z
some_below n z h = ap (λ (b : Bool). if b then Some z else None) (lt-ltb n (2 ^ 127) h)

none_above : (n : ℕ) (z : ℤ) → 2 ^ 127 ≤ n → (if nat_lt n (2 ^ 127) then Some z else None) ≡ None
none_above n z h = ap (λ (b : Bool). if b then Some z else None) (le-ltb n (2 ^ 127) h)

pub limited_above : (n : ℕ) → 2 ^ 127 ≤ n → limited (pos n) ≡ None
limited_above n h = none_above n (pos n) h

pub limited_below : (n : ℕ) → 2 ^ 127 ≤ n → limited (negsuc n) ≡ None
limited_below n h = none_above n (negsuc n) h

-- a number is within the limits where it fits an i128, and only there
limited_some : (z : ℤ) → FitsSigned w128 z → limited z ≡ Some z
limited_some (pos n) f = some_below n (pos n) f.sfits
limited_some (negsuc n) f = some_below n (negsuc n) f.sfits

not_less : (n m : ℕ) → (n < m → ⊥) → m ≤ n
not_less n m h = omega (arith, h)

limited_none : (z : ℤ) → (FitsSigned w128 z → ⊥) → limited z ≡ None
limited_none (pos n) h = limited_above n (not_less n (2 ^ 127) (λ l. h (record { sfits = l })))
limited_none (negsuc n) h = limited_below n (not_less n (2 ^ 127) (λ l. h (record { sfits = l })))

-- what a checked operation answers
pub limited_checked : (o : Option ℤ) (v : ℤ) → SomeIff o (FitsSigned w128 v) v → o ≡ limited v
limited_checked None v h = sym (limited_none v h)
limited_checked (Some x) v h = ap Some h.1 ∙ sym (limited_some v h.0)

if_ok_at : (P : ℤ → Type 0) (z : ℤ) (b : Bool) → P z → IfOk (within (if b then Some z else None)) P
if_ok_at P z true p = p
if_ok_at P z false p = tt

limited_if_ok : (P : ℤ → Type 0) (z : ℤ) → P z → IfOk (within (limited z)) P
limited_if_ok P (pos n) p = if_ok_at P (pos n) (nat_lt n (2 ^ 127)) p
limited_if_ok P (negsuc n) p = if_ok_at P (negsuc n) (nat_lt n (2 ^ 127)) p

-- what holds of the exact value holds of the answer
pub within_if_ok : (P : ℤ → Type 0) (z : ℤ) (r : Result ℤ NumFault) → P z → r ≡ within (limited z) → IfOk r P
within_if_ok P z r p e = subst (λ (s : Result ℤ NumFault). IfOk s P) (sym e) (limited_if_ok P z p)
