-- Lemmas on what literals stand for.
use Rattle.std.proofs.Common.{◌≡◌, ℕ, ◌+◌, ◌*◌, ◌^◌, ◌<◌, ◌≤◌, Bool, true, List, [], ◌∷◌, ◌++◌, length, take, drop, slice_index, sym, ap, ◌∙◌, arith}
use Rattle.std.specs.List.{list_all}
use Rattle.std.proofs.lemmas.Bool.{and_parts}
use Rattle.std.proofs.lemmas.List.{take-append-drop, length-take-le, take_more}
use Rattle.std.proofs.lemmas.List.Folds.{list_all-append}
use Rattle.std.proofs.Math.Nat.{pow-le-pow_right}
use Rattle.go_tree.specs.Lexical.Numbers.{is_hex}
use Rattle.go_tree.specs.Lexical.Literals.{number_in, digit_value}
use Rattle.go_scan.specs.declared.escapes.Digits.{Digits}
use Rattle.go_scan.specs.Escapes.{base_of, count_of, is_escape_digit}
use Rattle.go_scan.proofs.DigitLemmas.{is_digit, block}
use Rattle.go_scan.proofs.ReadLemmas.{some_base, small_places, number_snoc}
use Rattle.go_scan.proofs.LiteralCharacterLemmas.{all_at}

all_take : (p : ℕ → Bool) (xs : List ℕ) (i : ℕ) → list_all p xs ≡ true → list_all p (take i xs) ≡ true
all_take p xs i all = (and_parts _ _ (sym (list_all-append p (take i xs) (drop i xs)) ∙ ap (λ l. list_all p l) (take-append-drop i xs) ∙ all)).0

pub number_small : (kind : Digits) (xs : List ℕ) → list_all (is_escape_digit kind) xs ≡ true → number_in (base_of kind) xs < base_of kind ^ length xs
number_small kind xs all = let k = block kind 0 xs all in let z : 0 * base_of kind ^ length xs ≡ 0 = omega arith in let i = k.is in omega (arith, k.small)

small_places_of : (kind : Digits) (n : ℕ) → n ≤ count_of kind → base_of kind ^ n ≤ 4294967296
small_places_of kind n le = let b = some_base kind in let p : base_of kind ^ n ≤ base_of kind ^ count_of kind = pow-le-pow_right (omega arith) le in omega (arith, small_places kind)

-- one more digit of a number
pub record NumberStep (kind : Digits) (xs : List ℕ) (i value b : ℕ) : Type 0 where
  pub next : value * base_of kind + digit_value b ≡ number_in (base_of kind) (take (i + 1) xs)
  pub small : value * base_of kind + digit_value b < 4294967296
  pub hex : is_hex b ≡ true

pub number_step : (kind : Digits) (xs : List ℕ) (i value b : ℕ) → list_all (is_escape_digit kind) xs ≡ true → length xs ≤ count_of kind → i < length xs → value ≡ number_in (base_of kind) (take i xs) → b ≡ slice_index xs i → NumberStep kind xs i value b
number_step kind xs i value b all short lt is here =
    let digit : is_escape_digit kind b ≡ true = ap (λ x. is_escape_digit kind x) here ∙ all_at (is_escape_digit kind) xs i all lt in
    let d = is_digit kind b digit in
    let snoc : take (i + 1) xs ≡ take i xs ++ b ∷ [] = take_more xs i 0 lt ∙ ap (λ x. take i xs ++ x ∷ []) (sym here) in
    let next : value * base_of kind + digit_value b ≡ number_in (base_of kind) (take (i + 1) xs) =
    ap (λ v. v * base_of kind + digit_value b) is ∙ sym (ap (λ l. number_in (base_of kind) l) snoc ∙ number_snoc kind (take i xs) b digit) in
    let l = length-take-le (i + 1) xs (omega arith) in
    let s = number_small kind (take (i + 1) xs) (all_take (is_escape_digit kind) xs (i + 1) all) in
    let p = small_places_of kind (length (take (i + 1) xs)) (omega (arith, l)) in
    record { next = next; small = omega arith; hex = d.hex }

pub number_fits : (kind : Digits) (xs : List ℕ) → list_all (is_escape_digit kind) xs ≡ true → length xs ≤ count_of kind → number_in (base_of kind) xs < 4294967296
number_fits kind xs all short = let s = number_small kind xs all in let p = small_places_of kind (length xs) short in omega arith
