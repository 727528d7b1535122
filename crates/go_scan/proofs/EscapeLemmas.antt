-- Lemmas on escapes: which digits each has, and where the reading of one stops.
use Rattle.std.proofs.Common.{◌≡◌, ◌≢◌, ℕ, ◌+◌, ◌<◌, ◌≤◌, true, false, List, [], ◌∷◌, ◌++◌, length, slice_index, refl, sym, ap, subst, ◌∙◌, arith, ⊎_elim}
use Rattle.std.specs.Prelude.{slice_range, ◌&&◌, ◌||◌, ◌==◌}
use Rattle.std.proofs.lemmas.Bool.{cases_lt, and_parts, and_from, or_cases, or_left, or_right, both_ways, eqb-true, eq-eqb}
use Rattle.std.proofs.lemmas.Bool.Decides.{nat_tests}
use Rattle.go_tree.specs.Lexical.Numbers.{is_octal, is_empty}
use Rattle.go_tree.specs.Lexical.Literals.{is_escape, is_simple_escape, is_octal_byte, are_hex, are_code_point}
use Rattle.go_scan.specs.declared.escapes.Digits.{Digits}
use Rattle.go_scan.specs.declared.escapes.Digits.TheVariants.{Octal, Byte, Little, Big}
use Rattle.go_scan.specs.Escapes.{AreDigits, Stops, IsEscape, IsQuote}
use Rattle.go_tree.proofs.ByteLemmas.{range_cons, range_empty}

-- the letter behind the backslash that asks for such digits
abbrev pub IsMark : Digits → ℕ → Type 0
IsMark Octal e = ⊥
IsMark Byte e = e ≡ 120
IsMark Little e = e ≡ 117
IsMark Big e = e ≡ 85

pub data EscapeCase (quote e : ℕ) (xs : List ℕ) : Type 0 where
  simple : is_simple_escape quote e ≡ true → xs ≡ [] → EscapeCase quote e xs
  octal : AreDigits Octal (e ∷ xs) → EscapeCase quote e xs
  marked : {kind : Digits} → IsMark kind e → AreDigits kind xs → EscapeCase quote e xs

no_more : (xs : List ℕ) → is_empty xs ≡ true → xs ≡ []
no_more [] h = refl
no_more (x ∷ xs) h = cc

octal_digits : (xs : List ℕ) → is_octal_byte xs ≡ true → AreDigits Octal xs
octal_digits xs h = let p = and_parts _ _ h in let q = and_parts _ _ p.1 in record { count = eqb-true _ _ p.0; digits = q.0; value = q.1 }

hex_digits : (xs : List ℕ) → are_hex 2 xs ≡ true → AreDigits Byte xs
hex_digits xs h = let p = and_parts _ _ h in record { count = eqb-true _ _ p.0; digits = p.1; value = refl }

little_digits : (xs : List ℕ) → are_code_point 4 xs ≡ true → AreDigits Little xs
little_digits xs h = let p = and_parts _ _ h in let q = and_parts _ _ p.0 in record { count = eqb-true _ _ q.0; digits = q.1; value = p.1 }

big_digits : (xs : List ℕ) → are_code_point 8 xs ≡ true → AreDigits Big xs
big_digits xs h = let p = and_parts _ _ h in let q = and_parts _ _ p.0 in record { count = eqb-true _ _ q.0; digits = q.1; value = p.1 }

hex_case : (quote e : ℕ) (xs : List ℕ) → ((e == 120) && are_hex 2 xs || ((e == 117) && are_code_point 4 xs || (e == 85) && are_code_point 8 xs)) ≡ true → EscapeCase quote e xs
hex_case quote e xs h =
    ⊎_elim
    (λ a. let p = and_parts _ _ a in marked {kind = Byte} (eqb-true _ _ p.0) (hex_digits xs p.1))
    (λ b. ⊎_elim
    (λ a. let p = and_parts _ _ a in marked {kind = Little} (eqb-true _ _ p.0) (little_digits xs p.1))
    (λ a. let p = and_parts _ _ a in marked {kind = Big} (eqb-true _ _ p.0) (big_digits xs p.1))
    (or_cases _ _ b))
    (or_cases _ _ h)

pub escape_case : (quote e : ℕ) (xs : List ℕ) → IsEscape quote (e ∷ xs) → EscapeCase quote e xs
escape_case quote e xs h =
    ⊎_elim
    (λ a. let p = and_parts _ _ a in simple p.0 (no_more xs p.1))
    (λ b. ⊎_elim (λ a. octal (octal_digits (e ∷ xs) a)) (λ a. hex_case quote e xs a) (or_cases _ _ b))
    (or_cases _ _ h)

pub simple_escape : (quote e : ℕ) → is_simple_escape quote e ≡ true → IsEscape quote (e ∷ [])
simple_escape quote e h = or_left _ _ (and_from _ _ h refl)

pub octal_escape : (quote : ℕ) (xs : List ℕ) → AreDigits Octal xs → IsEscape quote xs
octal_escape quote [] a = let c = a.count in absurd (omega arith)
octal_escape quote (e ∷ xs) a = or_right (is_simple_escape quote e && is_empty xs) _ (or_left _ _ (and_from _ _ (eq-eqb _ _ a.count) (and_from _ _ a.digits a.value)))

behind_octal : (quote e : ℕ) (xs : List ℕ) → (((e == 120) && are_hex 2 xs) || (((e == 117) && are_code_point 4 xs) || ((e == 85) && are_code_point 8 xs))) ≡ true → IsEscape quote (e ∷ xs)
behind_octal quote e xs h = or_right (is_simple_escape quote e && is_empty xs) _ (or_right (is_octal_byte (e ∷ xs)) _ h)

pub marked_escape : (quote e : ℕ) (kind : Digits) (xs : List ℕ) → IsMark kind e → AreDigits kind xs → IsEscape quote (e ∷ xs)
marked_escape quote e Octal xs m a = absurd m
marked_escape quote e Byte xs m a = behind_octal quote e xs (or_left ((e == 120) && are_hex 2 xs) _ (and_from _ _ (eq-eqb _ _ m) (and_from _ _ (eq-eqb _ _ a.count) a.digits)))
marked_escape quote e Little xs m a = behind_octal quote e xs (or_right ((e == 120) && are_hex 2 xs) _ (or_left _ ((e == 85) && are_code_point 8 xs) (and_from _ _ (eq-eqb _ _ m) (and_from _ _ (and_from _ _ (eq-eqb _ _ a.count) a.digits) a.value))))
marked_escape quote e Big xs m a = behind_octal quote e xs (or_right ((e == 120) && are_hex 2 xs) _ (or_right ((e == 117) && are_code_point 4 xs) _ (and_from _ _ (eq-eqb _ _ m) (and_from _ _ (and_from _ _ (eq-eqb _ _ a.count) a.digits) a.value))))

-- what a simple escape is not
pub record IsSimple (e : ℕ) : Type 0 where
  pub some : 0 < e
  pub plain : e < 128
  pub no_octal : is_octal e ≡ false
  pub no_byte : e ≢ 120
  pub no_little : e ≢ 117
  pub no_big : e ≢ 85

pub simple_is : (quote e : ℕ) → 0 < quote → quote < 48 → is_simple_escape quote e ≡ true → IsSimple e
simple_is quote e some small h = record {
  some = grind (arith, nat_tests);
  plain = grind (arith, nat_tests);
  no_octal = grind (arith, nat_tests);
  no_byte = λ x. grind (arith, nat_tests);
  no_little = λ x. grind (arith, nat_tests);
  no_big = λ x. grind (arith, nat_tests);
}

pub mark_octal : (kind : Digits) (e : ℕ) → IsMark kind e → is_octal e ≡ true → ⊥
mark_octal Octal e m h = m
mark_octal Byte e m h = grind (arith, nat_tests)
mark_octal Little e m h = grind (arith, nat_tests)
mark_octal Big e m h = grind (arith, nat_tests)

pub mark_simple : (kind : Digits) (e : ℕ) → IsMark kind e → IsSimple e → ⊥
mark_simple Octal e m s = m
mark_simple Byte e m s = s.no_byte m
mark_simple Little e m s = s.no_little m
mark_simple Big e m s = s.no_big m

pub mark_plain : (kind : Digits) (e : ℕ) → IsMark kind e → (0 < e) × (e < 128)
mark_plain Octal e m = absurd m
mark_plain Byte e m = (omega arith, omega arith)
mark_plain Little e m = (omega arith, omega arith)
mark_plain Big e m = (omega arith, omega arith)

one_mark : (k j : Digits) (e : ℕ) → IsMark k e → IsMark j e → k ≡ j
one_mark Octal j e m n = absurd m
one_mark Byte Byte e m n = refl
one_mark Byte Octal e m n = absurd n
one_mark Byte Little e m n = absurd (omega arith)
one_mark Byte Big e m n = absurd (omega arith)
one_mark Little Little e m n = refl
one_mark Little Octal e m n = absurd n
one_mark Little Byte e m n = absurd (omega arith)
one_mark Little Big e m n = absurd (omega arith)
one_mark Big Big e m n = refl
one_mark Big Octal e m n = absurd n
one_mark Big Byte e m n = absurd (omega arith)
one_mark Big Little e m n = absurd (omega arith)

pub octal_first : (e : ℕ) (xs : List ℕ) → AreDigits Octal (e ∷ xs) → is_octal e ≡ true
octal_first e xs a = (and_parts _ _ a.digits).0

pub from_octal : (quote e : ℕ) (xs : List ℕ) → IsQuote quote → is_octal e ≡ true → EscapeCase quote e xs → AreDigits Octal (e ∷ xs)
from_octal quote e xs q o (simple s n) = absurd (both_ways _ (simple_is quote e q.some q.small s).no_octal o)
from_octal quote e xs q o (octal a) = a
from_octal quote e xs q o (marked {kind} m a) = absurd (mark_octal kind e m o)

pub from_mark : (quote e : ℕ) (kind : Digits) (xs : List ℕ) → IsQuote quote → IsMark kind e → EscapeCase quote e xs → AreDigits kind xs
from_mark quote e kind xs q m (simple s n) = absurd (mark_simple kind e m (simple_is quote e q.some q.small s))
from_mark quote e kind xs q m (octal a) = absurd (mark_octal kind e m (octal_first e xs a))
from_mark quote e kind xs q m (marked {kind = j} n a) = subst (λ (k : Digits). AreDigits k xs) (one_mark j kind e n m) a

-- a byte with which no escape begins
pub record BeginsNone (quote e : ℕ) : Type 0 where
  pub no_simple : is_simple_escape quote e ≡ false
  pub no_octal : is_octal e ≡ false
  pub no_byte : e ≢ 120
  pub no_little : e ≢ 117
  pub no_big : e ≢ 85

no_mark : (quote e : ℕ) (kind : Digits) → BeginsNone quote e → IsMark kind e → ⊥
no_mark quote e Octal b m = m
no_mark quote e Byte b m = b.no_byte m
no_mark quote e Little b m = b.no_little m
no_mark quote e Big b m = b.no_big m

from_none : (quote e : ℕ) (xs : List ℕ) → BeginsNone quote e → EscapeCase quote e xs → ⊥
from_none quote e xs b (simple s n) = both_ways _ b.no_simple s
from_none quote e xs b (octal a) = both_ways _ b.no_octal (octal_first e xs a)
from_none quote e xs b (marked {kind} m a) = no_mark quote e kind b m

-- bytes that go on with a byte, by their first
record Head (bytes : List ℕ) (from at : ℕ) (more : List ℕ) : Type 0 where
  tail : List ℕ
  is : slice_range bytes from at ++ slice_index bytes at ∷ more ≡ slice_index bytes from ∷ tail

head : (bytes : List ℕ) (from at : ℕ) (more : List ℕ) → from ≤ at → at < length bytes → Head bytes from at more
head bytes from at more le lt =
    ⊎_elim
    (λ (before : from < at). record { tail = slice_range bytes (from + 1) at ++ slice_index bytes at ∷ more; is = ap (λ xs. xs ++ slice_index bytes at ∷ more) (range_cons bytes from at before (omega arith)) })
    (λ (here : at ≤ from). let e : at ≡ from = omega arith in record { tail = more; is = ap (λ xs. xs ++ slice_index bytes at ∷ more) (ap (λ k. slice_range bytes from k) e ∙ range_empty bytes from) ∙ ap (λ k. slice_index bytes k ∷ more) e })
    (cases_lt from at)

octal_dead : (quote : ℕ) (bytes : List ℕ) (from at : ℕ) (more : List ℕ) → IsQuote quote → is_octal (slice_index bytes from) ≡ true → from ≤ at → at < length bytes → IsEscape quote (slice_range bytes from at ++ slice_index bytes at ∷ more) → AreDigits Octal (slice_range bytes from at ++ slice_index bytes at ∷ more)
octal_dead quote bytes from at more q o le lt h =
    let e = head bytes from at more le lt in
    let k : IsEscape quote (slice_index bytes from ∷ e.tail) = sym (ap (is_escape quote) e.is) ∙ h in
    subst (λ (xs : List ℕ). AreDigits Octal xs) (sym e.is) (from_octal quote (slice_index bytes from) e.tail q o (escape_case quote (slice_index bytes from) e.tail k))

-- the digits of an octal escape stop, and so does the escape
pub stops_octal : (quote : ℕ) (bytes : List ℕ) (from at : ℕ) → IsQuote quote → is_octal (slice_index bytes from) ≡ true → Stops (AreDigits Octal) bytes from at → Stops (IsEscape quote) bytes from at
stops_octal quote bytes from at q o s = record {
  behind = s.behind;
  within = s.within;
  rest = s.rest;
  some = s.some;
  could = octal_escape quote (slice_range bytes from at ++ s.rest) s.could;
  dead = λ more lt h. s.dead more lt (octal_dead quote bytes from at more q o s.behind lt h);
  plain = s.plain;
}

marked_range : (bytes : List ℕ) (from at : ℕ) (more : List ℕ) → from < length bytes → from + 1 ≤ at → slice_range bytes from at ++ more ≡ slice_index bytes from ∷ (slice_range bytes (from + 1) at ++ more)
marked_range bytes from at more lt le = ap (λ xs. xs ++ more) (range_cons bytes from at (omega arith) lt)

-- the digits behind a mark stop, and so does the escape
pub stops_marked : (quote : ℕ) (bytes : List ℕ) (from at : ℕ) (kind : Digits) → IsQuote quote → IsMark kind (slice_index bytes from) → from < length bytes → Stops (AreDigits kind) bytes (from + 1) at → Stops (IsEscape quote) bytes from at
stops_marked quote bytes from at kind q m lt s = record {
  behind = let b = s.behind in omega arith;
  within = s.within;
  rest = s.rest;
  some = s.some;
  could = ap (is_escape quote) (marked_range bytes from at s.rest lt s.behind) ∙ marked_escape quote (slice_index bytes from) kind (slice_range bytes (from + 1) at ++ s.rest) m s.could;
  dead = λ more past h.
      s.dead more past (from_mark quote (slice_index bytes from) kind (slice_range bytes (from + 1) at ++ slice_index bytes at ∷ more) q m
      (escape_case quote (slice_index bytes from) (slice_range bytes (from + 1) at ++ slice_index bytes at ∷ more) (sym (ap (is_escape quote) (marked_range bytes from at (slice_index bytes at ∷ more) lt s.behind)) ∙ h)));
  plain = λ k low high. ⊎_elim
      (λ (behind : from < k). s.plain k (omega arith) high)
      (λ (here : k ≤ from). let e : k ≡ from = omega arith in subst (λ (j : ℕ). (0 < slice_index bytes j) × (slice_index bytes j < 128)) (sym e) (mark_plain kind (slice_index bytes from) m))
      (cases_lt from k);
}

-- no escape begins so
pub stops_none : (quote : ℕ) (bytes : List ℕ) (from : ℕ) → BeginsNone quote (slice_index bytes from) → from ≤ length bytes → Stops (IsEscape quote) bytes from from
stops_none quote bytes from b le = record {
  behind = omega arith;
  within = le;
  rest = 110 ∷ [];
  some = λ e. cc;
  could = ap (λ xs. is_escape quote (xs ++ 110 ∷ [])) (range_empty bytes from) ∙ simple_escape quote 110 (or_right (110 == quote) _ refl);
  dead = λ more lt h. from_none quote (slice_index bytes from) more b (escape_case quote (slice_index bytes from) more (sym (ap (λ xs. is_escape quote (xs ++ slice_index bytes from ∷ more)) (range_empty bytes from)) ∙ h));
  plain = λ k low high. absurd (omega arith);
}

-- whole escapes
pub whole_simple : (quote : ℕ) (bytes : List ℕ) (from : ℕ) → from < length bytes → is_simple_escape quote (slice_index bytes from) ≡ true → IsEscape quote (slice_range bytes from (from + 1))
whole_simple quote bytes from lt h = ap (is_escape quote) (range_cons bytes from (from + 1) (omega arith) lt ∙ ap (λ xs. slice_index bytes from ∷ xs) (range_empty bytes (from + 1))) ∙ simple_escape quote (slice_index bytes from) h

pub whole_marked : (quote : ℕ) (bytes : List ℕ) (from to : ℕ) (kind : Digits) → IsMark kind (slice_index bytes from) → from < length bytes → from + 1 < to → AreDigits kind (slice_range bytes (from + 1) to) → IsEscape quote (slice_range bytes from to)
whole_marked quote bytes from to kind m lt le a = ap (is_escape quote) (range_cons bytes from to (omega arith) lt) ∙ marked_escape quote (slice_index bytes from) kind (slice_range bytes (from + 1) to) m a
