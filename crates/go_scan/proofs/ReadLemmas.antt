-- Lemmas on the reading of an escape's digits, one by one.
use Rattle.std.proofs.Common.{◌≡◌, ℕ, suc, ◌+◌, ◌-◌, ◌*◌, ◌/◌, ◌^◌, ◌<◌, ◌≤◌, true, false, List, [], ◌∷◌, ◌++◌, length, replicate, slice_index, refl, sym, ap, subst, ◌∙◌, arith, ⊎_elim, length-append}
use Rattle.std.specs.Prelude.{slice_range}
use Rattle.std.specs.List.{list_all}
use Rattle.std.proofs.lemmas.Bool.{cases_lt, and_parts, and_from, both_ways}
use Rattle.std.proofs.lemmas.List.{length-replicate}
use Rattle.std.proofs.lemmas.List.Sums.{fold-append}
use Rattle.std.proofs.lemmas.List.Folds.{list_all-append}
use Rattle.std.proofs.Math.Nat.{pow-suc, pow-zero, one-le-pow, add-mul, mul-div_cancel, mul_assoc, mul_comm, mul-one, mul-le-mul_right}
use Rattle.go_tree.specs.Lexical.Literals.{number_in, digit_value}
use Rattle.go_scan.specs.declared.escapes.Digits.{Digits}
use Rattle.go_scan.specs.declared.escapes.Digits.TheVariants.{Octal, Byte, Little, Big}
use Rattle.go_scan.specs.Escapes.{base_of, count_of, is_escape_digit, is_value_of, AreDigits, Stops}
use Rattle.go_tree.proofs.ByteLemmas.{there, range_snoc, range_empty, range_length}
use Rattle.go_scan.proofs.DigitLemmas.{add_digit, adds, zeros, is_digit, zero_digits, block, value_block}

-- the digits from `from` up to `at`, and what they write, completed by zeros
pub record Reads (kind : Digits) (bytes : List ℕ) (from at unit least : ℕ) : Type 0 where
  pub behind : from ≤ at
  pub within : at ≤ length bytes
  pub count : at ≤ from + count_of kind
  pub units : unit ≡ base_of kind ^ (from + count_of kind - at)
  pub digits : list_all (is_escape_digit kind) (slice_range bytes from at) ≡ true
  pub each : (k : ℕ) → from ≤ k → k < at → is_escape_digit kind (slice_index bytes k) ≡ true
  pub value : least ≡ number_in (base_of kind) (slice_range bytes from at) * unit
  pub fits : is_value_of kind least ≡ true
  pub room : least + unit ≤ base_of kind ^ count_of kind

zero_value : (kind : Digits) → is_value_of kind 0 ≡ true
zero_value Octal = refl
zero_value Byte = refl
zero_value Little = refl
zero_value Big = refl

pub some_base : (kind : Digits) → 8 ≤ base_of kind
some_base Octal = omega arith
some_base Byte = omega arith
some_base Little = omega arith
some_base Big = omega arith

some_count : (kind : Digits) → 2 ≤ count_of kind
some_count Octal = omega arith
some_count Byte = omega arith
some_count Little = omega arith
some_count Big = omega arith

pub small_places : (kind : Digits) → base_of kind ^ count_of kind ≤ 4294967296
small_places Octal = omega arith
small_places Byte = omega arith
small_places Little = omega arith
small_places Big = omega arith

pub reads_first : (kind : Digits) (bytes : List ℕ) (from : ℕ) → from ≤ length bytes → Reads kind bytes from from (base_of kind ^ count_of kind) 0
reads_first kind bytes from le =
    let empty = range_empty bytes from in
    record {
      behind = omega arith;
      within = le;
      count = omega arith;
      units = ap (λ m. base_of kind ^ m) (let e : count_of kind ≡ from + count_of kind - from = omega arith in e);
      digits = ap (λ xs. list_all (is_escape_digit kind) xs) empty;
      each = λ k low high. absurd (omega arith);
      value = sym (ap (λ xs. number_in (base_of kind) xs * base_of kind ^ count_of kind) empty ∙ (let z : 0 * base_of kind ^ count_of kind ≡ 0 = omega arith in z));
      fits = zero_value kind;
      room = omega arith;
    }

-- how many digits are missing behind the next one
pub record Missing (kind : Digits) (from at unit : ℕ) : Type 0 where
  pub after : ℕ
  pub is : at + 1 + after ≡ from + count_of kind
  pub units : unit ≡ base_of kind ^ after * base_of kind
  pub next : unit / base_of kind ≡ base_of kind ^ after
  pub whole : unit ≡ base_of kind ^ suc after

pub missing : (kind : Digits) (bytes : List ℕ) (from at unit least : ℕ) → Reads kind bytes from at unit least → 1 < unit → Missing kind from at unit
missing kind bytes from at unit least r some =
    let b = some_base kind in
    let le = r.count in
    let units = r.units in
    let m : 1 ≤ from + count_of kind - at = ⊎_elim
    (λ (none : from + count_of kind - at < 1). let z : from + count_of kind - at ≡ 0 = omega arith in let one : unit ≡ 1 = units ∙ ap (λ k. base_of kind ^ k) z ∙ pow-zero (base_of kind) in absurd (omega arith))
    (λ ge. ge)
    (cases_lt (from + count_of kind - at) 1) in
    let n : from + count_of kind - at ≡ suc (from + count_of kind - at - 1) = omega arith in
    let whole : unit ≡ base_of kind ^ suc (from + count_of kind - at - 1) = units ∙ ap (λ k. base_of kind ^ k) n in
    let u = whole ∙ pow-suc (base_of kind) (from + count_of kind - at - 1) in
    record {
      after = from + count_of kind - at - 1;
      is = omega arith;
      units = u;
      next = ap (λ x. x / base_of kind) u ∙ mul-div_cancel (base_of kind ^ (from + count_of kind - at - 1)) (omega arith);
      whole = whole;
    }

pub number_snoc : (kind : Digits) (xs : List ℕ) (b : ℕ) → is_escape_digit kind b ≡ true → number_in (base_of kind) (xs ++ b ∷ []) ≡ number_in (base_of kind) xs * base_of kind + digit_value b
number_snoc kind xs b h = fold-append (add_digit (base_of kind)) 0 xs (b ∷ []) ∙ adds (base_of kind) (number_in (base_of kind) xs) b (is_digit kind b h).no_blank

next_value : (n base d u unit least : ℕ) → unit ≡ u * base → least ≡ n * unit → least + d * u ≡ (n * base + d) * u
next_value n base d u unit least e l =
    let a : (n * base + d) * u ≡ n * base * u + d * u = add-mul (n * base) d u in
    let b : n * base * u ≡ n * (u * base) = mul_assoc n base u ∙ ap (λ x. n * x) (mul_comm base u) in
    let f : least ≡ n * (u * base) = l ∙ ap (λ x. n * x) e in
    omega arith

next_room : (base d u unit least all : ℕ) → unit ≡ u * base → d < base → least + unit ≤ all → least + d * u + u ≤ all
next_room base d u unit least all e small room =
    let a : (d + 1) * u ≤ base * u = mul-le-mul_right u (let s : d + 1 ≤ base = omega arith in s) in
    let b : (d + 1) * u ≡ d * u + 1 * u = add-mul d 1 u in
    let f : base * u ≡ u * base = mul_comm base u in
    omega arith

-- one more digit
pub reads_more : (kind : Digits) (bytes : List ℕ) (from at unit least b : ℕ) → Reads kind bytes from at unit least → 1 < unit → b ≡ slice_index bytes at → is_escape_digit kind b ≡ true → is_value_of kind (least + digit_value b * (unit / base_of kind)) ≡ true → Reads kind bytes from (at + 1) (unit / base_of kind) (least + digit_value b * (unit / base_of kind))
reads_more kind bytes from at unit least b r some here digit fits =
    let m = missing kind bytes from at unit least r some in
    let base = base_of kind in
    let d = is_digit kind b digit in
    let lt : at < length bytes = there bytes at b (sym here) d.some in
    let is = m.is in
    let behind = r.behind in
    let digit_here : is_escape_digit kind (slice_index bytes at) ≡ true = sym (ap (λ x. is_escape_digit kind x) here) ∙ digit in
    let xs = slice_range bytes from at in
    let snoc : slice_range bytes from (at + 1) ≡ xs ++ b ∷ [] = range_snoc bytes from at behind lt ∙ ap (λ x. xs ++ x ∷ []) (sym here) in
    record {
      behind = omega arith;
      within = omega arith;
      count = omega arith;
      units = m.next ∙ ap (λ k. base ^ k) (let e : m.after ≡ from + count_of kind - (at + 1) = omega arith in e);
      digits = ap (λ l. list_all (is_escape_digit kind) l) snoc ∙ list_all-append (is_escape_digit kind) xs (b ∷ []) ∙ and_from _ _ r.digits (and_from _ _ digit refl);
      each = λ k low high. ⊎_elim (λ (old : k < at). r.each k low old) (λ (new : at ≤ k). let e : at ≡ k = omega arith in ap (λ j. is_escape_digit kind (slice_index bytes j)) (sym e) ∙ digit_here) (cases_lt k at);
      value =
          ap (λ u. least + digit_value b * u) m.next
          ∙ next_value (number_in base xs) base (digit_value b) (base ^ m.after) unit least m.units r.value
          ∙ ap (λ u. (number_in base xs * base + digit_value b) * u) (sym m.next)
          ∙ ap (λ n. n * (unit / base)) (sym (ap (λ l. number_in base l) snoc ∙ number_snoc kind xs b digit));
      fits = fits;
      room = next_room base (digit_value b) (unit / base) unit least (base ^ count_of kind) (m.units ∙ ap (λ u. u * base) (sym m.next)) d.small r.room;
    }

-- all the digits
pub reads_whole : (kind : Digits) (bytes : List ℕ) (from at unit least : ℕ) → Reads kind bytes from at unit least → unit ≤ 1 → AreDigits kind (slice_range bytes from at) × (from < at)
reads_whole kind bytes from at unit least r one =
    let le = r.count in
    let behind = r.behind in
    let units = r.units in
    let b = some_base kind in
    let c = some_count kind in
    let none : at ≡ from + count_of kind = ⊎_elim
    (λ (z : from + count_of kind - at < 1). omega arith)
    (λ (some : 1 ≤ from + count_of kind - at).
    let n : from + count_of kind - at ≡ suc (from + count_of kind - at - 1) = omega arith in
    let u : unit ≡ base_of kind ^ (from + count_of kind - at - 1) * base_of kind = units ∙ ap (λ k. base_of kind ^ k) n ∙ pow-suc (base_of kind) (from + count_of kind - at - 1) in
    let p : 1 ≤ base_of kind ^ (from + count_of kind - at - 1) = one-le-pow (from + count_of kind - at - 1) (base_of kind) (omega arith) in
    let q : 1 * base_of kind ≤ base_of kind ^ (from + count_of kind - at - 1) * base_of kind = mul-le-mul_right (base_of kind) p in
    absurd (omega arith))
    (cases_lt (from + count_of kind - at) 1) in
    let z : from + count_of kind - at ≡ 0 = omega arith in
    let is_one : unit ≡ 1 = units ∙ ap (λ k. base_of kind ^ k) z ∙ pow-zero (base_of kind) in
    let l = range_length bytes from at behind r.within in
    let v : least ≡ number_in (base_of kind) (slice_range bytes from at) = r.value ∙ ap (λ u. number_in (base_of kind) (slice_range bytes from at) * u) is_one ∙ mul-one _ in
    (record { count = omega (arith, l); digits = r.digits; value = sym (ap (λ x. is_value_of kind x) v) ∙ r.fits }, omega arith)

-- the digits can be completed by zeros
completed : (kind : Digits) (bytes : List ℕ) (from at unit least : ℕ) → Reads kind bytes from at unit least → (m : Missing kind from at unit) → AreDigits kind (slice_range bytes from at ++ replicate (suc m.after) 48)
completed kind bytes from at unit least r m =
    let base = base_of kind in
    let xs = slice_range bytes from at in
    let zs : List ℕ = replicate (suc m.after) 48 in
    let l = range_length bytes from at r.behind r.within in
    let la : length (xs ++ zs) ≡ length xs + length zs = length-append xs zs in
    let lz : length zs ≡ suc m.after = length-replicate (suc m.after) 48 in
    let is = m.is in
    let behind = r.behind in
    record {
      count = omega arith;
      digits = list_all-append (is_escape_digit kind) xs zs ∙ and_from _ _ r.digits (zero_digits kind (suc m.after));
      value = ap (λ x. is_value_of kind x) (fold-append (add_digit base) 0 xs zs ∙ zeros base (number_in base xs) (suc m.after) ∙ ap (λ u. number_in base xs * u) (sym m.whole) ∙ sym r.value) ∙ r.fits;
    }

plain_digits : (kind : Digits) (bytes : List ℕ) (from at unit least : ℕ) → Reads kind bytes from at unit least → (k : ℕ) → from ≤ k → k < at → (0 < slice_index bytes k) × (slice_index bytes k < 128)
plain_digits kind bytes from at unit least r k low high = let d = is_digit kind (slice_index bytes k) (r.each k low high) in (d.some, d.plain)

-- no digit stands there
pub no_digit : (kind : Digits) (bytes : List ℕ) (from at unit least b : ℕ) → Reads kind bytes from at unit least → 1 < unit → b ≡ slice_index bytes at → is_escape_digit kind b ≡ false → Stops (AreDigits kind) bytes from at
no_digit kind bytes from at unit least b r some here unfit =
    let m = missing kind bytes from at unit least r some in
    record {
      behind = r.behind;
      within = r.within;
      rest = replicate (suc m.after) 48;
      some = λ e. cc;
      could = completed kind bytes from at unit least r m;
      dead = λ more lt all.
          let parts = and_parts _ _ (sym (list_all-append (is_escape_digit kind) (slice_range bytes from at) (slice_index bytes at ∷ more)) ∙ all.digits) in
          both_ways _ unfit (ap (λ x. is_escape_digit kind x) here ∙ (and_parts _ _ parts.1).0);
      plain = plain_digits kind bytes from at unit least r;
    }

dead_value : (kind : Digits) (bytes : List ℕ) (from at unit least b : ℕ) → Reads kind bytes from at unit least → (m : Missing kind from at unit) → b ≡ slice_index bytes at → is_escape_digit kind b ≡ true → is_value_of kind (least + digit_value b * (unit / base_of kind)) ≡ false → (more : List ℕ) → AreDigits kind (slice_range bytes from at ++ slice_index bytes at ∷ more) → ⊥
dead_value kind bytes from at unit least b r m here digit unfit more all =
    let base = base_of kind in
    let xs = slice_range bytes from at in
    let b2 = slice_index bytes at in
    let l = range_length bytes from at r.behind r.within in
    let la = length-append xs (b2 ∷ more) in
    let count = all.count in
    let is = m.is in
    let behind = r.behind in
    let same : length more ≡ m.after = omega arith in
    let parts = and_parts _ _ (sym (list_all-append (is_escape_digit kind) xs (b2 ∷ more)) ∙ all.digits) in
    let others = (and_parts _ _ parts.1).1 in
    let w = number_in base xs * base + digit_value b in
    let k = block kind (add_digit base (number_in base xs) b2) more others in
    let w_is : add_digit base (number_in base xs) b2 ≡ w = ap (λ x. add_digit base (number_in base xs) x) (sym here) ∙ adds base (number_in base xs) b (is_digit kind b digit).no_blank in
    let n_is : number_in base (xs ++ b2 ∷ more) ≡ w * base ^ m.after + k.more =
    fold-append (add_digit base) 0 xs (b2 ∷ more) ∙ k.is ∙ ap (λ x. x * base ^ length more + k.more) w_is ∙ ap (λ j. w * base ^ j + k.more) same in
    let next_is : least + digit_value b * (unit / base) ≡ w * base ^ m.after =
    ap (λ u. least + digit_value b * u) m.next ∙ next_value (number_in base xs) base (digit_value b) (base ^ m.after) unit least m.units r.value in
    let small : k.more < base ^ m.after = subst (λ (j : ℕ). k.more < base ^ j) same k.small in
    both_ways _ (value_block kind w m.after k.more small (sym (ap (λ x. is_value_of kind x) next_is) ∙ unfit)) (sym (ap (λ x. is_value_of kind x) n_is) ∙ all.value)

-- a digit stands there that does not fit
pub no_value : (kind : Digits) (bytes : List ℕ) (from at unit least b : ℕ) → Reads kind bytes from at unit least → 1 < unit → b ≡ slice_index bytes at → is_escape_digit kind b ≡ true → is_value_of kind (least + digit_value b * (unit / base_of kind)) ≡ false → Stops (AreDigits kind) bytes from at
no_value kind bytes from at unit least b r some here digit unfit =
    let m = missing kind bytes from at unit least r some in
    record {
      behind = r.behind;
      within = r.within;
      rest = replicate (suc m.after) 48;
      some = λ e. cc;
      could = completed kind bytes from at unit least r m;
      dead = λ more lt all. dead_value kind bytes from at unit least b r m here digit unfit more all;
      plain = plain_digits kind bytes from at unit least r;
    }
