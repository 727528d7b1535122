-- Lemmas on the binary digits of whole numbers: what the bitwise operators make of them, and that a number is told by
-- them.
use Rattle.std.proofs.Common.{◌≡◌, ℕ, zero, suc, ◌+◌, ◌-◌, ◌%◌, ◌^◌, ◌<◌, ◌≤◌, min, max, ℤ, pos, negsuc, Bool, true, false, not, ◌&&◌, ◌||◌, ◌==◌, bit_and, bit_or, bit_xor, refl, ap, ap₂, sym, ◌∙◌, arith, pow_pos, pow-suc, mul_comm}
use Rattle.std.specs.Int.{bit_at}
use Rattle.std.proofs.lemmas.Nat.Bits.{bit_at_and, bit_at_or, bit_at_xor, bit_at-lt, bit_at_above, same_from_bits}
use Rattle.go_num.specs.declared.arithmetic.IntOp.{IntOp}
use Rattle.go_num.specs.declared.arithmetic.IntOp.TheVariants.{Add, Sub, Mul, Quo, Rem, And, Or, Xor, AndNot}
use Rattle.go_num.specs.Arithmetic.{binary_value}
use Rattle.go_num.specs.Bits.{HasBits, IsBitwise, and_not_value, and_value, bit, bits_without, exclusive_or, is_set, not_value, or_value, xor_value}

-- ---- one digit

-- a digit is 0 or 1
pub by_digit : (P : ℕ → Type 0) → P 0 → P 1 → (x : ℕ) → x < 2 → P x
by_digit P p q zero h = p
by_digit P p q (suc zero) h = q
by_digit P p q (suc (suc x)) h = absurd (omega arith)

min_digit : (y : ℕ) → y < 2 → (x : ℕ) → x < 2 → (min x y == 1) ≡ ((x == 1) && (y == 1))
min_digit = by_digit (λ y. (x : ℕ) → x < 2 → (min x y == 1) ≡ ((x == 1) && (y == 1)))
    (by_digit (λ x. (min x 0 == 1) ≡ ((x == 1) && (0 == 1))) refl refl)
    (by_digit (λ x. (min x 1 == 1) ≡ ((x == 1) && (1 == 1))) refl refl)

max_digit : (y : ℕ) → y < 2 → (x : ℕ) → x < 2 → (max x y == 1) ≡ ((x == 1) || (y == 1))
max_digit = by_digit (λ y. (x : ℕ) → x < 2 → (max x y == 1) ≡ ((x == 1) || (y == 1)))
    (by_digit (λ x. (max x 0 == 1) ≡ ((x == 1) || (0 == 1))) refl refl)
    (by_digit (λ x. (max x 1 == 1) ≡ ((x == 1) || (1 == 1))) refl refl)

sum_digit : (y : ℕ) → y < 2 → (x : ℕ) → x < 2 → ((x + y) % 2 == 1) ≡ exclusive_or (x == 1) (y == 1)
sum_digit = by_digit (λ y. (x : ℕ) → x < 2 → ((x + y) % 2 == 1) ≡ exclusive_or (x == 1) (y == 1))
    (by_digit (λ x. ((x + 0) % 2 == 1) ≡ exclusive_or (x == 1) (0 == 1)) refl refl)
    (by_digit (λ x. ((x + 1) % 2 == 1) ≡ exclusive_or (x == 1) (1 == 1)) refl refl)

same_digit : (y : ℕ) → y < 2 → (x : ℕ) → x < 2 → (x == 1) ≡ (y == 1) → x ≡ y
same_digit = by_digit (λ y. (x : ℕ) → x < 2 → (x == 1) ≡ (y == 1) → x ≡ y)
    (by_digit (λ x. (x == 1) ≡ (0 == 1) → x ≡ 0) (λ e. refl) (λ e. cc))
    (by_digit (λ x. (x == 1) ≡ (1 == 1) → x ≡ 1) (λ e. cc) (λ e. refl))

-- ---- natural numbers

pub is_set_and : (a b i : ℕ) → is_set (bit_and a b) i ≡ (is_set a i && is_set b i)
is_set_and a b i =
    ap (λ (d : ℕ). d == 1) (bit_at_and a b i) ∙ min_digit (bit_at b i) (bit_at-lt b i) (bit_at a i) (bit_at-lt a i)

pub is_set_or : (a b i : ℕ) → is_set (bit_or a b) i ≡ (is_set a i || is_set b i)
is_set_or a b i =
    ap (λ (d : ℕ). d == 1) (bit_at_or a b i) ∙ max_digit (bit_at b i) (bit_at-lt b i) (bit_at a i) (bit_at-lt a i)

pub is_set_xor : (a b i : ℕ) → is_set (bit_xor a b) i ≡ exclusive_or (is_set a i) (is_set b i)
is_set_xor a b i =
    ap (λ (d : ℕ). d == 1) (bit_at_xor a b i) ∙ sum_digit (bit_at b i) (bit_at-lt b i) (bit_at a i) (bit_at-lt a i)

and_xor : (p q : Bool) → (p && exclusive_or p q) ≡ (p && not q)
and_xor true true = refl
and_xor true false = refl
and_xor false q = refl

is_set_without : (a b i : ℕ) → is_set (bits_without a b) i ≡ (is_set a i && not (is_set b i))
is_set_without a b i =
    is_set_and a (bit_xor a b) i ∙ ap (λ (q : Bool). is_set a i && q) (is_set_xor a b i) ∙ and_xor (is_set a i) (is_set b i)

self_below : (n : ℕ) → n < 2 ^ n
self_below zero = omega arith
self_below (suc n) = rw pow-suc (let smaller = self_below n in omega (arith, pow_pos n))

-- no digit from its own place on
pub clear_above : (n i : ℕ) → n ≤ i → is_set n i ≡ false
clear_above n i h =
    let below : n < 2 ^ i = let far = self_below i in omega arith in
    ap (λ (d : ℕ). d == 1) (bit_at_above n i i below (omega arith))

pub clear_from : (n k i : ℕ) → n < 2 ^ k → k ≤ i → is_set n i ≡ false
clear_from n k i l h = ap (λ (d : ℕ). d == 1) (bit_at_above n k i l h)

-- ---- tests

and_flipped : (p q : Bool) → (q && not p) ≡ (not p && q)
and_flipped true true = refl
and_flipped true false = refl
and_flipped false true = refl
and_flipped false false = refl

or_flipped : (p q : Bool) → not (p || q) ≡ (not p && not q)
or_flipped true q = refl
or_flipped false q = refl

right_flipped : (p q : Bool) → not (q && not p) ≡ (p || not q)
right_flipped true true = refl
right_flipped true false = refl
right_flipped false true = refl
right_flipped false false = refl

left_flipped : (p q : Bool) → not (p && not q) ≡ (not p || q)
left_flipped true true = refl
left_flipped true false = refl
left_flipped false q = refl

both_flipped : (p q : Bool) → not (p && q) ≡ (not p || not q)
both_flipped true q = refl
both_flipped false q = refl

xor_right : (p q : Bool) → not (exclusive_or p q) ≡ exclusive_or p (not q)
xor_right true true = refl
xor_right true false = refl
xor_right false true = refl
xor_right false false = refl

xor_left : (p q : Bool) → not (exclusive_or p q) ≡ exclusive_or (not p) q
xor_left true true = refl
xor_left true false = refl
xor_left false true = refl
xor_left false false = refl

xor_both : (p q : Bool) → exclusive_or p q ≡ exclusive_or (not p) (not q)
xor_both true true = refl
xor_both true false = refl
xor_both false true = refl
xor_both false false = refl

not_not : (p : Bool) → not (not p) ≡ p
not_not true = refl
not_not false = refl

-- ---- whole numbers

pub bit_not : (a : ℤ) (i : ℕ) → bit (not_value a) i ≡ not (bit a i)
bit_not (pos n) i = refl
bit_not (negsuc n) i = sym (not_not (is_set n i))

pub and_bits : (a b : ℤ) → HasBits (λ p q. p && q) a b (and_value a b)
and_bits (pos a) (pos b) i = is_set_and a b i
and_bits (pos a) (negsuc b) i = is_set_without a b i
and_bits (negsuc a) (pos b) i = is_set_without b a i ∙ and_flipped (is_set a i) (is_set b i)
and_bits (negsuc a) (negsuc b) i = ap not (is_set_or a b i) ∙ or_flipped (is_set a i) (is_set b i)

pub or_bits : (a b : ℤ) → HasBits (λ p q. p || q) a b (or_value a b)
or_bits (pos a) (pos b) i = is_set_or a b i
or_bits (pos a) (negsuc b) i = ap not (is_set_without b a i) ∙ right_flipped (is_set a i) (is_set b i)
or_bits (negsuc a) (pos b) i = ap not (is_set_without a b i) ∙ left_flipped (is_set a i) (is_set b i)
or_bits (negsuc a) (negsuc b) i = ap not (is_set_and a b i) ∙ both_flipped (is_set a i) (is_set b i)

pub xor_bits : (a b : ℤ) → HasBits (λ p q. exclusive_or p q) a b (xor_value a b)
xor_bits (pos a) (pos b) i = is_set_xor a b i
xor_bits (pos a) (negsuc b) i = ap not (is_set_xor a b i) ∙ xor_right (is_set a i) (is_set b i)
xor_bits (negsuc a) (pos b) i = ap not (is_set_xor a b i) ∙ xor_left (is_set a i) (is_set b i)
xor_bits (negsuc a) (negsuc b) i = is_set_xor a b i ∙ xor_both (is_set a i) (is_set b i)

pub and_not_bits : (a b : ℤ) → HasBits (λ p q. p && not q) a b (and_not_value a b)
and_not_bits a b i = and_bits a (not_value b) i ∙ ap (λ (q : Bool). bit a i && q) (bit_not b i)

pub is_bitwise : (op : IntOp) (a b : ℤ) → IsBitwise op a b (binary_value op a b)
is_bitwise Add a b = tt
is_bitwise Sub a b = tt
is_bitwise Mul a b = tt
is_bitwise Quo a b = tt
is_bitwise Rem a b = tt
is_bitwise And a b = and_bits a b
is_bitwise Or a b = or_bits a b
is_bitwise Xor a b = xor_bits a b
is_bitwise AndNot a b = and_not_bits a b

-- ---- a number by its digits

same_naturals : (a b : ℕ) → ((i : ℕ) → is_set a i ≡ is_set b i) → a ≡ b
same_naturals a b h =
    same_from_bits a b (λ i. same_digit (bit_at b i) (bit_at-lt b i) (bit_at a i) (bit_at-lt a i) (h i))

-- a negative number has a digit that one that is not negative has not
signs_apart : (a b : ℕ) → ((i : ℕ) → is_set a i ≡ not (is_set b i)) → ⊥
signs_apart a b h =
    let e = h (a + b) in
    let low : is_set a (a + b) ≡ false = clear_above a (a + b) (omega arith) in
    let high : is_set b (a + b) ≡ false = clear_above b (a + b) (omega arith) in
    let clash : false ≡ true = sym low ∙ e ∙ ap not high in cc

pub same_from_digits : (a b : ℤ) → ((i : ℕ) → bit a i ≡ bit b i) → a ≡ b
same_from_digits (pos a) (pos b) h = ap pos (same_naturals a b h)
same_from_digits (pos a) (negsuc b) h = absurd (signs_apart a b h)
same_from_digits (negsuc a) (pos b) h = absurd (signs_apart b a (λ i. sym (h i)))
same_from_digits (negsuc a) (negsuc b) h =
    ap negsuc (same_naturals a b (λ i. sym (not_not (is_set a i)) ∙ ap not (h i) ∙ not_not (is_set b i)))
