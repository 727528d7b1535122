-- Lemmas on the digits of an escape.
use Rattle.std.proofs.Common.{◌≡◌, ◌≢◌, ℕ, zero, suc, ◌+◌, ◌*◌, ◌^◌, ◌<◌, ◌≤◌, ◌⊎◌, true, false, List, [], ◌∷◌, length, replicate, refl, sym, ap, ◌∙◌, arith, ⊎_elim, inl, inr}
use Rattle.std.specs.Prelude.{fold, ◌==◌, if◌then◌else◌}
use Rattle.std.specs.List.{list_all}
use Rattle.std.proofs.lemmas.Bool.{cond-false, ne_eqb, cases_lt, and_parts, and_from}
use Rattle.std.proofs.lemmas.Bool.Decides.{nat_tests}
use Rattle.std.proofs.lemmas.Nat.{mul-add-lt}
use Rattle.std.proofs.Math.Nat.{pow-suc, pow-zero, pow-le-pow_right, mul-one, add-mul, mul_assoc, mul_comm, mul-le-mul_right}
use Rattle.go_tree.specs.Lexical.Numbers.{is_hex, is_octal}
use Rattle.go_tree.specs.Lexical.Literals.{number_in, digit_value, is_valid_code_point}
use Rattle.go_scan.specs.declared.escapes.Digits.{Digits}
use Rattle.go_scan.specs.declared.escapes.Digits.TheVariants.{Octal, Byte, Little, Big}
use Rattle.go_scan.specs.Escapes.{base_of, is_escape_digit, is_value_of}

-- what a digit adds to a number
abbrev pub add_digit : ℕ → ℕ → ℕ → ℕ
add_digit base n b = if b == 95 then n else n * base + digit_value b

number_is : (base : ℕ) (xs : List ℕ) → number_in base xs ≡ fold (add_digit base) 0 xs
number_is base xs = refl

pub adds : (base n b : ℕ) → b ≢ 95 → add_digit base n b ≡ n * base + digit_value b
adds base n b ne = cond-false _ _ _ (ne_eqb b 95 ne)

-- digits that are 0
pub zeros : (base v m : ℕ) → fold (add_digit base) v (replicate m 48) ≡ v * base ^ m
zeros base v zero = sym (ap (λ x. v * x) (pow-zero base) ∙ mul-one v)
zeros base v (suc m) =
    let z : v * base + 0 ≡ v * base = omega arith in
    zeros base (v * base + 0) m ∙ ap (λ x. x * base ^ m) z ∙ mul_assoc v base (base ^ m) ∙ ap (λ x. v * x) (mul_comm base (base ^ m) ∙ sym (pow-suc base m))

pub record IsDigit (base b : ℕ) : Type 0 where
  pub small : digit_value b < base
  pub no_blank : b ≢ 95
  pub some : 0 < b
  pub plain : b < 128
  pub hex : is_hex b ≡ true

octal_digit : (b : ℕ) → is_octal b ≡ true → IsDigit 8 b
octal_digit b h = record { small = grind (arith, nat_tests); no_blank = λ e. grind (arith, nat_tests); some = grind (arith, nat_tests); plain = grind (arith, nat_tests); hex = grind (arith, nat_tests) }

hex_digit : (b : ℕ) → is_hex b ≡ true → IsDigit 16 b
hex_digit b h = record { small = grind (arith, nat_tests); no_blank = λ e. grind (arith, nat_tests); some = grind (arith, nat_tests); plain = grind (arith, nat_tests); hex = h }

pub is_digit : (kind : Digits) (b : ℕ) → is_escape_digit kind b ≡ true → IsDigit (base_of kind) b
is_digit Octal b h = octal_digit b h
is_digit Byte b h = hex_digit b h
is_digit Little b h = hex_digit b h
is_digit Big b h = hex_digit b h

zero_digit : (kind : Digits) → is_escape_digit kind 48 ≡ true
zero_digit Octal = refl
zero_digit Byte = refl
zero_digit Little = refl
zero_digit Big = refl

pub zero_digits : (kind : Digits) (m : ℕ) → list_all (is_escape_digit kind) (replicate m 48) ≡ true
zero_digits kind zero = refl
zero_digits kind (suc m) = and_from _ _ (zero_digit kind) (zero_digits kind m)

-- what more digits make of a number
pub record Block (n base count v : ℕ) : Type 0 where
  pub more : ℕ
  pub small : more < base ^ count
  pub is : n ≡ v * base ^ count + more

blocks_step : (base v d p : ℕ) (n more : ℕ) → n ≡ (v * base + d) * p + more → n ≡ v * (p * base) + (d * p + more)
blocks_step base v d p n more e =
    let a : (v * base + d) * p ≡ v * base * p + d * p = add-mul (v * base) d p in
    let b : v * base * p ≡ v * (p * base) = mul_assoc v base p ∙ ap (λ x. v * x) (mul_comm base p) in
    omega arith

pub block : (kind : Digits) (v : ℕ) (zs : List ℕ) → list_all (is_escape_digit kind) zs ≡ true → Block (fold (add_digit (base_of kind)) v zs) (base_of kind) (length zs) v
block kind v [] all = let one : base_of kind ^ 0 ≡ 1 = pow-zero (base_of kind) in record { more = 0; small = omega arith; is = sym (ap (λ x. v * x + 0) one ∙ grind arith) }
block kind v (z ∷ zs) all =
    let base = base_of kind in
    let parts = and_parts _ _ all in
    let d = is_digit kind z parts.0 in
    let rest = block kind (add_digit base v z) zs parts.1 in
    let p : base ^ suc (length zs) ≡ base ^ length zs * base = pow-suc base (length zs) in
    let s : digit_value z * base ^ length zs + rest.more < base ^ length zs * base = mul-add-lt (digit_value z) (base ^ length zs) rest.more base d.small rest.small in
    record {
      more = digit_value z * base ^ length zs + rest.more;
      small = rw p s;
      is = rw p (blocks_step base v (digit_value z) (base ^ length zs) _ rest.more (rest.is ∙ ap (λ x. x * base ^ length zs + rest.more) (adds base v z d.no_blank)));
    }

-- no block of numbers with as many digits straddles the end of those that may be written
octal_block : (p more : ℕ) → is_value_of Octal p ≡ false → is_value_of Octal (p + more) ≡ false
octal_block p more h = grind (arith, nat_tests)

not_valid : (p : ℕ) → is_valid_code_point p ≡ false → (55296 ≤ p) × ((p ≤ 57343) ⊎ (1114112 ≤ p))
not_valid p h =
    ⊎_elim
    (λ (le : p ≤ 57343). (grind (arith, nat_tests), inl le))
    (λ (gt : 57343 < p). (omega arith, inr (grind (arith, nat_tests))))
    (⊎_elim (λ (lt : p < 57344). inl (omega arith)) (λ (ge : 57344 ≤ p). inr (omega arith)) (cases_lt p 57344))

invalid : (q : ℕ) → 55296 ≤ q → (q ≤ 57343) ⊎ (1114112 ≤ q) → is_valid_code_point q ≡ false
invalid q low (inl h) = grind (arith, nat_tests)
invalid q low (inr h) = grind (arith, nat_tests)

-- what a unit of a base 16 may be
abbrev Unit16 : ℕ → Type 0
Unit16 u = (u ≡ 1) ⊎ ((u ≡ 16) ⊎ ((u ≡ 256) ⊎ ((u ≡ 4096) ⊎ (65536 ≤ u))))

unit_16 : (m : ℕ) → Unit16 (16 ^ m)
unit_16 zero = inl refl
unit_16 (suc zero) = inr (inl refl)
unit_16 (suc (suc zero)) = inr (inr (inl refl))
unit_16 (suc (suc (suc zero))) = inr (inr (inr (inl refl)))
unit_16 (suc (suc (suc (suc m)))) = inr (inr (inr (inr (let four : 4 ≤ suc (suc (suc (suc m))) = omega arith in pow-le-pow_right {n = 16} (omega arith) four))))

surrogate_block : (w p u more : ℕ) → p ≡ w * u → more < u → Unit16 u → 55296 ≤ p → p ≤ 57343 → p + more ≤ 57343
surrogate_block w p u more e small (inl is) low high = omega arith
surrogate_block w p u more e small (inr (inl is)) low high = let f : p ≡ w * 16 = e ∙ ap (λ x. w * x) is in omega arith
surrogate_block w p u more e small (inr (inr (inl is))) low high = let f : p ≡ w * 256 = e ∙ ap (λ x. w * x) is in omega arith
surrogate_block w p u more e small (inr (inr (inr (inl is)))) low high = let f : p ≡ w * 4096 = e ∙ ap (λ x. w * x) is in omega arith
surrogate_block w p u more e small (inr (inr (inr (inr big)))) low high =
    absurd (⊎_elim
    (λ (none : w < 1). let f : w ≡ 0 = omega arith in let g : p ≡ 0 * u = e ∙ ap (λ x. x * u) f in omega arith)
    (λ (some : 1 ≤ w). let g : 1 * u ≤ w * u = mul-le-mul_right u some in omega arith)
    (cases_lt w 1))

code_block : (w p u more : ℕ) → p ≡ w * u → more < u → Unit16 u → is_valid_code_point p ≡ false → is_valid_code_point (p + more) ≡ false
code_block w p u more e small c h =
    let n = not_valid p h in
    invalid (p + more) (omega (arith, n.0)) (⊎_elim
    (λ (high : p ≤ 57343). inl (surrogate_block w p u more e small c n.0 high))
    (λ (past : 1114112 ≤ p). inr (omega arith))
    n.1)

pub value_block : (kind : Digits) (w m more : ℕ) → more < base_of kind ^ m → is_value_of kind (w * base_of kind ^ m) ≡ false → is_value_of kind (w * base_of kind ^ m + more) ≡ false
value_block Octal w m more small h = octal_block (w * 8 ^ m) more h
value_block Byte w m more small h = cc
value_block Little w m more small h = code_block w (w * 16 ^ m) (16 ^ m) more refl small (unit_16 m) h
value_block Big w m more small h = code_block w (w * 16 ^ m) (16 ^ m) more refl small (unit_16 m) h
