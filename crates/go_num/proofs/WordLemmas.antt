-- Lemmas on the operators of an i128: on numbers that fit, they are the bitwise operators of whole numbers.
use Rattle.std.proofs.Common.{◌≡◌, ℕ, suc, ◌-◌, ◌^◌, ◌<◌, ◌≤◌, min, ℤ, pos, negsuc, Bool, true, false, not, ◌&&◌, ◌||◌, ◌==◌, ⊎_elim, bit_and, bit_or, bit_xor, FitsSigned, refl, ap, ap₂, sym, ◌∙◌, subst, arith, to_z, of_z, lt_of_le_of_lt}
use Rattle.std.specs.Int.{w128, bit_at, int_bit_and, int_bit_or, int_bit_xor}
use Rattle.std.proofs.lemmas.Int.{to_z-of_z, to_z_pos}
use Rattle.std.proofs.lemmas.Nat.{and_le_l, or_lt, xor_lt}
use Rattle.std.proofs.lemmas.Nat.Bits.{bit_at-lt, bit_at_not}
use Rattle.std.proofs.lemmas.Bool.{cases_lt}
use Rattle.go_num.specs.declared.arithmetic.IntOp.{IntOp}
use Rattle.go_num.specs.Arithmetic.{binary_value}
use Rattle.go_num.specs.Bits.{and_not_value, and_value, IsBitwise, bit, exclusive_or, is_set, not_value, or_value, xor_value}
use Rattle.go_num.proofs.BitLemmas.{and_bits, by_digit, clear_from, is_set_and, is_set_or, is_bitwise, is_set_xor, or_bits, same_from_digits, xor_bits}

-- ---- the digits of a word of 128 bits

flipped_digit : (x : ℕ) → x < 2 → not ((1 - x) == 1) ≡ (x == 1)
flipped_digit = by_digit (λ x. not ((1 - x) == 1) ≡ (x == 1)) refl refl

-- 2^128 - 1 - n has the digits that n has not
flipped : (n i : ℕ) → n < 2 ^ 128 → i < 128 → not (is_set (2 ^ 128 - 1 - n) i) ≡ is_set n i
flipped n i l h =
    ap (λ (d : ℕ). not (d == 1)) (bit_at_not w128 n i l h) ∙ flipped_digit (bit_at n i) (bit_at-lt n i)

-- the sign stands at place 127, and at each place above
near_place : (i : ℕ) → i < 128 → min i 127 ≡ i
near_place i h = omega arith

far_place : (i : ℕ) → 128 ≤ i → min i 127 ≡ 127
far_place i h = omega arith

low_far : (m i : ℕ) → m < 2 ^ 127 → 128 ≤ i → is_set m i ≡ is_set m (min i 127)
low_far m i l h =
    let clear : is_set m (min i 127) ≡ false = ap (is_set m) (far_place i h) ∙ clear_from m 127 127 l (omega arith) in
    clear_from m 127 i l (omega arith) ∙ sym clear

low_digits : (m i : ℕ) → m < 2 ^ 127 → is_set m i ≡ is_set m (min i 127)
low_digits m i l =
    ⊎_elim (λ (h : i < 128). ap (is_set m) (sym (near_place i h))) (λ (h : 128 ≤ i). low_far m i l h) (cases_lt i 128)

high_far : (m i : ℕ) → m < 2 ^ 128 → 2 ^ 127 ≤ m → 128 ≤ i → not (is_set (2 ^ 128 - 1 - m) i) ≡ is_set m (min i 127)
high_far m i l large h =
    let small : 2 ^ 128 - 1 - m < 2 ^ 127 = omega arith in
    let here : not (is_set (2 ^ 128 - 1 - m) i) ≡ true = ap not (clear_from (2 ^ 128 - 1 - m) 127 i small (omega arith)) in
    let last : not (is_set (2 ^ 128 - 1 - m) 127) ≡ true = ap not (clear_from (2 ^ 128 - 1 - m) 127 127 small (omega arith)) in
    let there : is_set m (min i 127) ≡ is_set m 127 = ap (is_set m) (far_place i h) in
    here ∙ sym last ∙ flipped m 127 l (omega arith) ∙ sym there

high_digits : (m i : ℕ) → m < 2 ^ 128 → 2 ^ 127 ≤ m → not (is_set (2 ^ 128 - 1 - m) i) ≡ is_set m (min i 127)
high_digits m i l large =
    ⊎_elim
    (λ (h : i < 128). flipped m i l h ∙ ap (is_set m) (sym (near_place i h)))
    (λ (h : 128 ≤ i). high_far m i l large h)
    (cases_lt i 128)

high_word : (m : ℕ) → m < 2 ^ 128 → 2 ^ 127 ≤ m → to_z w128 m ≡ negsuc (2 ^ 128 - 1 - m)
high_word m l h =
    let word : m ≡ of_z w128 (negsuc (2 ^ 128 - 1 - m)) = omega arith in
    let fit : FitsSigned w128 (negsuc (2 ^ 128 - 1 - m)) = record { sfits = omega arith } in
    ap (to_z w128) word ∙ to_z-of_z w128 (negsuc (2 ^ 128 - 1 - m)) fit

pub word_digits : (m i : ℕ) → m < 2 ^ 128 → bit (to_z w128 m) i ≡ is_set m (min i 127)
word_digits m i l =
    ⊎_elim
    (λ (h : m < 2 ^ 127). ap (λ (z : ℤ). bit z i) (to_z_pos w128 m h) ∙ low_digits m i h)
    (λ (h : 2 ^ 127 ≤ m). ap (λ (z : ℤ). bit z i) (high_word m l h) ∙ high_digits m i l h)
    (cases_lt m (2 ^ 127))

pub word_below : (z : ℤ) → FitsSigned w128 z → of_z w128 z < 2 ^ 128
word_below (pos n) f = let h : n < 2 ^ 127 = f.sfits in omega arith
word_below (negsuc n) f = omega arith

number_digits : (z : ℤ) (i : ℕ) → FitsSigned w128 z → bit z i ≡ is_set (of_z w128 z) (min i 127)
number_digits z i f =
    ap (λ (y : ℤ). bit y i) (sym (to_z-of_z w128 z f)) ∙ word_digits (of_z w128 z) i (word_below z f)

-- ---- the operators

pub word_and : (a b : ℤ) → FitsSigned w128 a → FitsSigned w128 b → int_bit_and w128 a b ≡ and_value a b
word_and a b f g =
    let m = of_z w128 a in
    let n = of_z w128 b in
    same_from_digits (int_bit_and w128 a b) (and_value a b) (λ i.
    word_digits (bit_and m n) i (lt_of_le_of_lt (and_le_l m n) (word_below a f))
    ∙ is_set_and m n (min i 127)
    ∙ ap₂ (λ (p q : Bool). p && q) (sym (number_digits a i f)) (sym (number_digits b i g))
    ∙ sym (and_bits a b i))

pub word_or : (a b : ℤ) → FitsSigned w128 a → FitsSigned w128 b → int_bit_or w128 a b ≡ or_value a b
word_or a b f g =
    let m = of_z w128 a in
    let n = of_z w128 b in
    same_from_digits (int_bit_or w128 a b) (or_value a b) (λ i.
    word_digits (bit_or m n) i (or_lt 128 m n (word_below a f) (word_below b g))
    ∙ is_set_or m n (min i 127)
    ∙ ap₂ (λ (p q : Bool). p || q) (sym (number_digits a i f)) (sym (number_digits b i g))
    ∙ sym (or_bits a b i))

pub word_xor : (a b : ℤ) → FitsSigned w128 a → FitsSigned w128 b → int_bit_xor w128 a b ≡ xor_value a b
word_xor a b f g =
    let m = of_z w128 a in
    let n = of_z w128 b in
    same_from_digits (int_bit_xor w128 a b) (xor_value a b) (λ i.
    word_digits (bit_xor m n) i (xor_lt 128 m n (word_below a f) (word_below b g))
    ∙ is_set_xor m n (min i 127)
    ∙ ap₂ (λ (p q : Bool). exclusive_or p q) (sym (number_digits a i f)) (sym (number_digits b i g))
    ∙ sym (xor_bits a b i))

word_flipped : (b : ℤ) → FitsSigned w128 b → 2 ^ 128 - 1 - of_z w128 b ≡ of_z w128 (not_value b)
word_flipped (pos n) f = omega arith
word_flipped (negsuc n) f = let h : n < 2 ^ 127 = f.sfits in omega arith

not_fits : (b : ℤ) → FitsSigned w128 b → FitsSigned w128 (not_value b)
not_fits (pos n) f = record { sfits = f.sfits }
not_fits (negsuc n) f = record { sfits = f.sfits }

pub word_and_not : (a b : ℤ) → FitsSigned w128 a → FitsSigned w128 b → to_z w128 (bit_and (of_z w128 a) (2 ^ 128 - 1 - of_z w128 b)) ≡ and_not_value a b
word_and_not a b f g =
    ap (λ (n : ℕ). to_z w128 (bit_and (of_z w128 a) n)) (word_flipped b g) ∙ word_and a (not_value b) f (not_fits b g)

-- the digits of what a bitwise operation answers
pub word_bits : (op same : IntOp) (a b v : ℤ) → op ≡ same → FitsSigned w128 a → FitsSigned w128 b → FitsSigned w128 v
    → v ≡ binary_value same (to_z w128 (of_z w128 a)) (to_z w128 (of_z w128 b)) → IsBitwise op a b (to_z w128 (of_z w128 v))
word_bits op same a b v is f g h e =
    let parts : binary_value same (to_z w128 (of_z w128 a)) (to_z w128 (of_z w128 b)) ≡ binary_value same a b = ap₂ (binary_value same) (to_z-of_z w128 a f) (to_z-of_z w128 b g) in
    let whole : binary_value op a b ≡ to_z w128 (of_z w128 v) = ap (λ (o : IntOp). binary_value o a b) is ∙ sym parts ∙ sym e ∙ sym (to_z-of_z w128 v h) in
    subst (IsBitwise op a b) whole (is_bitwise op a b)
