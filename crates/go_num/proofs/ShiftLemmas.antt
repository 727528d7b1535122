-- Lemmas on shifts of numbers that fit an i128.
use Rattle.std.proofs.Common.{◌≡◌, ◌≢◌, ℕ, zero, suc, ◌+◌, ◌-◌, ◌*◌, ◌/◌, ◌%◌, ◌^◌, ◌<◌, ◌≤◌, min, ℤ, pos, negsuc, ◌*ℤ◌, neg_ℤ, false, true, FitsSigned, SomeIff, Option, Some, None, ⊎_elim, refl, ap, ap₂, sym, ◌∙◌, subst, arith, to_z, of_z, pow_mono, mul-le-mul, lt_of_lt_of_le, lt_of_le_of_lt, le_refl}
use Rattle.std.specs.Int.{w128, int_shr}
use Rattle.std.proofs.lemmas.Int.{to_z-of_z, to_z_pos}
use Rattle.std.proofs.lemmas.Nat.{one_shl, pow_below, shr_le}
use Rattle.std.proofs.Math.Nat.{div-eq_of_lt}
use Rattle.std.proofs.lemmas.Bool.{cases_lt}
use Rattle.go_num.specs.Arithmetic.{limited}
use Rattle.go_num.specs.Shifts.{shift_value}
use Rattle.go_num.proofs.LimitLemmas.{limited_above, limited_below, limited_checked}

-- `1 << n`
one_shifted : (n : ℕ) → n < 127 → to_z w128 ((1 * 2 ^ n) % 2 ^ 128) ≡ pos (2 ^ n)
one_shifted n h =
    ap (to_z w128) (one_shl n 128 (omega arith)) ∙ to_z_pos w128 (2 ^ n) (pow_below n 127 h)

pub shifted_by_product : (o : Option ℤ) (a : ℤ) (n : ℕ) → FitsSigned w128 a → n < 127
    → SomeIff o (FitsSigned w128 (to_z w128 (of_z w128 a) *ℤ to_z w128 ((1 * 2 ^ n) % 2 ^ 128))) (to_z w128 (of_z w128 a) *ℤ to_z w128 ((1 * 2 ^ n) % 2 ^ 128))
    → o ≡ limited (shift_value true a n)
shifted_by_product o a n f h s =
    limited_checked o (to_z w128 (of_z w128 a) *ℤ to_z w128 ((1 * 2 ^ n) % 2 ^ 128)) s
    ∙ ap₂ (λ (x y : ℤ). limited (x *ℤ y)) (to_z-of_z w128 a f) (one_shifted n h)

neg_suc : (m k : ℕ) → m ≡ suc k → neg_ℤ (pos m) ≡ negsuc k
neg_suc m k e = ap (λ (j : ℕ). neg_ℤ (pos j)) e

-- a product with 2^127 or more
product_above : (k p : ℕ) → 2 ^ 127 ≤ p → 2 ^ 127 ≤ suc k * p
product_above k p h = let more : 1 * p ≤ suc k * p = mul-le-mul (omega arith) (le_refl p) in omega arith

product_below : (k n : ℕ) → 127 ≤ n → (k ≡ 0 → n ≢ 127) → 2 ^ 127 < suc k * 2 ^ n
product_below zero n h far = let further : n ≢ 127 = far refl in let large : 2 ^ 128 ≤ 2 ^ n = pow_mono {i = 128} {j = n} (omega arith) in omega arith
product_below (suc k) n h far =
    let large : 2 ^ 127 ≤ 2 ^ n = pow_mono {i = 127} {j = n} h in
    let more : 2 * 2 ^ n ≤ suc (suc k) * 2 ^ n = mul-le-mul (omega arith) (le_refl (2 ^ n)) in omega arith

pub wide_shifted : (a : ℤ) (n : ℕ) → 127 ≤ n → (of_z w128 a ≡ 0 → ⊥) → (of_z w128 a ≡ 2 ^ 128 - 1 → n ≡ 127 → ⊥) → None ≡ limited (shift_value true a n)
wide_shifted (pos zero) n h nonzero far = absurd (nonzero refl)
wide_shifted (pos (suc k)) n h nonzero far = sym (limited_above (suc k * 2 ^ n) (product_above k (2 ^ n) (pow_mono {i = 127} {j = n} h)))
wide_shifted (negsuc k) n h nonzero far =
    let large = product_below k n h (λ (e : k ≡ 0). far (ap (λ (m : ℕ). 2 ^ 128 - suc m) e)) in
    sym (ap limited (neg_suc (suc k * 2 ^ n) (suc k * 2 ^ n - 1) (omega arith)) ∙ limited_below (suc k * 2 ^ n - 1) (omega arith))

-- ---- to the right

quotient_far : (m n : ℕ) → m < 2 ^ 127 → 127 ≤ n → m / 2 ^ min n 127 ≡ m / 2 ^ n
quotient_far m n l h =
    let large : 2 ^ 127 ≤ 2 ^ n = pow_mono {i = 127} {j = n} h in
    let last : min n 127 ≡ 127 = omega arith in
    let none : m / 2 ^ 127 ≡ 0 = div-eq_of_lt l in
    let none_either : m / 2 ^ n ≡ 0 = div-eq_of_lt (lt_of_lt_of_le l large) in
    ap (λ (k : ℕ). m / 2 ^ k) last ∙ none ∙ sym none_either

quotient_same : (m n : ℕ) → m < 2 ^ 127 → m / 2 ^ min n 127 ≡ m / 2 ^ n
quotient_same m n l =
    ⊎_elim
    (λ (h : n < 127). let near : min n 127 ≡ n = omega arith in ap (λ (k : ℕ). m / 2 ^ k) near)
    (λ (h : 127 ≤ n). quotient_far m n l h)
    (cases_lt n 127)

shifted_right_value : (a : ℤ) (n : ℕ) → FitsSigned w128 a → int_shr a (min n 127) ≡ shift_value false a n
shifted_right_value (pos m) n f = ap pos (quotient_same m n f.sfits)
shifted_right_value (negsuc m) n f = ap negsuc (quotient_same m n f.sfits)

shr_fits : (a : ℤ) (k : ℕ) → FitsSigned w128 a → FitsSigned w128 (int_shr a k)
shr_fits (pos m) k f = record { sfits = lt_of_le_of_lt (shr_le m k) f.sfits }
shr_fits (negsuc m) k f = record { sfits = lt_of_le_of_lt (shr_le m k) f.sfits }

pub shifted_right_is : (a : ℤ) (n k : ℕ) → FitsSigned w128 a → k ≡ min n 127 → to_z w128 (of_z w128 (int_shr (to_z w128 (of_z w128 a)) k)) ≡ shift_value false a n
shifted_right_is a n k f e =
    ap (λ (z : ℤ). to_z w128 (of_z w128 (int_shr z k))) (to_z-of_z w128 a f)
    ∙ to_z-of_z w128 (int_shr a k) (shr_fits a k f)
    ∙ ap (int_shr a) e
    ∙ shifted_right_value a n f
