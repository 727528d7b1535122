-- Lemmas on specs/Lines.antt.
use Rattle.std.proofs.Common.{◌≡◌, ℕ, ◌+◌, ◌-◌, ◌<◌, ◌≤◌, List, true, false, inl, inr, cond, length}
use Rattle.std.proofs.Common.{take, count_by, get_or, ap, subst, ◌∙◌, arith, length-take}
use Rattle.std.proofs.lemmas.List.{take-take, get_or-take}
use Rattle.std.proofs.lemmas.List.Sums.{sum_by-take-le, count_by_more_yes}
use Rattle.std.proofs.lemmas.List.Sorted.{IsNonDecreasingBy-from_default}
use Rattle.std.proofs.lemmas.Bool.{cases_lt, false_from_ne_true}
use Rattle.std.specs.List.Sorted.{IsNonDecreasing}
use Rattle.go_base.specs.Place.{is_newline, line_of, column_of}
use Rattle.go_base.specs.Lines.{IsLineStart, HasLineStarts, IsUpTo}
use Rattle.go_base.proofs.PlaceLemmas.{length-after_last}

-- the newlines before an offset
abbrev newlines : List ℕ → ℕ → ℕ
newlines bytes offset = count_by is_newline (take offset bytes)

-- they do not fall along the text
newlines-le : (bytes : List ℕ) (i j : ℕ) → i ≤ j → newlines bytes i ≤ newlines bytes j
newlines-le bytes i j le =
    let shorter : newlines (take j bytes) i ≤ newlines bytes j =
    sum_by-take-le (λ x. cond (is_newline x) 1 0) (take j bytes) i in
    subst (λ (front : List ℕ). count_by is_newline front ≤ newlines bytes j)
    (take-take i j bytes le) shorter

-- past 0, one newline fewer stands before the byte before a start
newlines-before_start : (bytes : List ℕ) (k start : ℕ) → IsLineStart bytes k start → 0 < start →
    newlines bytes (start - 1) + 1 ≡ k
newlines-before_start bytes k start line past =
    let step : newlines bytes (start - 1 + 1) ≡ newlines bytes (start - 1) + 1 =
    count_by_more_yes is_newline bytes (start - 1) 0
    (omega (arith, line.within)) (line.begins past) in
    let same : newlines bytes (start - 1 + 1) ≡ newlines bytes start =
    ap (newlines bytes) (omega arith) in
    omega (arith, line.counted)

-- no start stands before an earlier one
starts_rise : (bytes starts : List ℕ) (end : ℕ) → HasLineStarts bytes end starts → (i j : ℕ) →
    i ≤ j → j < length starts → get_or starts i 0 ≤ get_or starts j 0
starts_rise bytes starts end table i j le short =
    elim (cases_lt (get_or starts j 0) (get_or starts i 0)) [
      | inl lt ↦
          let fewer = newlines-le bytes (get_or starts j 0) (get_or starts i 0) (omega arith) in
          let here = (table.each i (omega arith)).counted in
          let there = (table.each j short).counted in
          let one : i ≡ j = omega arith in
          let same : get_or starts i 0 ≡ get_or starts j 0 =
          ap (λ (k : ℕ). get_or starts k 0) one in
          omega arith
      | inr ge ↦ ge
    ]

pub IsNonDecreasing-starts : (bytes starts : List ℕ) (end : ℕ) → HasLineStarts bytes end starts →
    IsNonDecreasing starts
IsNonDecreasing-starts bytes starts end table =
    IsNonDecreasingBy-from_default (λ x. x) starts 0 (starts_rise bytes starts end table)

-- the first start is 0
first_start : (bytes starts : List ℕ) (end : ℕ) → HasLineStarts bytes end starts →
    get_or starts 0 0 ≡ 0
first_start bytes starts end table =
    let line = table.each 0 (omega (arith, table.whole)) in
    elim (cases_lt 0 (get_or starts 0 0)) [
      | inl past ↦
          let before = newlines-before_start bytes 0 (get_or starts 0 0) line past in
          absurd (omega arith)
      | inr none ↦ omega arith
    ]

-- some start is up to the offset
pub some_start : (bytes starts : List ℕ) (offset n : ℕ) →
    HasLineStarts bytes (length bytes) starts → IsUpTo starts offset n → 0 < n
some_start bytes starts offset n table found = elim (cases_lt 0 n) [
  | inl some ↦ some
  | inr none ↦
      let first = first_start bytes starts (length bytes) table in
      let past = found.above 0 none (omega (arith, table.whole)) in
      absurd (omega arith)
]

-- no more newlines than other starts stand before the offset
newlines-upper : (bytes starts : List ℕ) (offset n : ℕ) → offset ≤ length bytes →
    HasLineStarts bytes (length bytes) starts → IsUpTo starts offset n →
    newlines bytes offset + 1 ≤ n
newlines-upper bytes starts offset n inside table found = elim (cases_lt n (length starts)) [
  | inl more ↦
      let past = found.above n (omega arith) more in
      let next =
      newlines-before_start bytes n (get_or starts n 0) (table.each n more) (omega arith) in
      let fewer = newlines-le bytes offset (get_or starts n 0 - 1) (omega arith) in
      omega arith
  | inr last ↦
      let fewer = newlines-le bytes offset (length bytes) inside in
      omega (arith, table.whole, found.within)
]

newlines-lower : (bytes starts : List ℕ) (offset n : ℕ) →
    HasLineStarts bytes (length bytes) starts → IsUpTo starts offset n → 0 < n →
    n ≤ newlines bytes offset + 1
newlines-lower bytes starts offset n table found some =
    let fewer = newlines-le bytes (get_or starts (n - 1) 0) offset
    (found.below (n - 1) (omega arith)) in
    let start = (table.each (n - 1) (omega (arith, found.within))).counted in
    omega arith

-- the line of the offset is the number of the starts up to it
pub line_of-starts : (bytes starts : List ℕ) (offset n : ℕ) → offset ≤ length bytes →
    HasLineStarts bytes (length bytes) starts → IsUpTo starts offset n → n ≡ line_of bytes offset
line_of-starts bytes starts offset n inside table found =
    let some = some_start bytes starts offset n table found in
    omega (
      arith,
      newlines-upper bytes starts offset n inside table found,
      newlines-lower bytes starts offset n table found some,
    )

-- its column is counted from the last of these starts
pub column_of-starts : (bytes starts : List ℕ) (offset n : ℕ) → offset ≤ length bytes →
    HasLineStarts bytes (length bytes) starts → IsUpTo starts offset n →
    offset - get_or starts (n - 1) 0 + 1 ≡ column_of bytes offset
column_of-starts bytes starts offset n inside table found =
    let some = some_start bytes starts offset n table found in
    let start = get_or starts (n - 1) 0 in
    let line : IsLineStart bytes (n - 1) start = table.each (n - 1) (omega (arith, found.within)) in
    let below : start ≤ offset = found.below (n - 1) (omega arith) in
    let size : length (take offset bytes) ≡ offset = omega (arith, length-take {A = ℕ}) in
    let front : (k : ℕ) → k < offset → get_or (take offset bytes) k 0 ≡ get_or bytes k 0 =
    λ k lt. get_or-take offset bytes k 0 lt in
    let none : (k : ℕ) → start ≤ k → k < offset → is_newline (get_or bytes k 0) ≡ false =
    λ k lo hi. false_from_ne_true (is_newline (get_or bytes k 0))
    (λ (is : is_newline (get_or bytes k 0) ≡ true).
    let step = count_by_more_yes is_newline bytes k 0 (omega arith) is in
    let first = newlines-le bytes start k lo in
    let last = newlines-le bytes (k + 1) offset (omega arith) in
    let upper = newlines-upper bytes starts offset n inside table found in
    omega (arith, line.counted)) in
    let column = length-after_last (take offset bytes) start (omega arith)
    (λ k lo hi. ap is_newline (front k (omega arith)) ∙ none k lo (omega arith))
    (λ past. ap is_newline (front (start - 1) (omega arith)) ∙ line.begins past) in
    omega arith
