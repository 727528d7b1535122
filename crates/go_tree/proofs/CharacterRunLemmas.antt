-- Lemmas on `Run`: how it goes on, where it lies, and that it has one end.
use Rattle.std.proofs.Common.{◌≡◌, ℕ, ◌+◌, ◌-◌, ◌<◌, ◌≤◌, Bool, true, List, [], ◌∷◌, length, drop, slice_index, Some, arith, length-drop}
use Rattle.bstr.specs.Utf8.{decoded}
use Rattle.bstr.proofs.lemmas.PieceLemmas.{piece-bounds}
use Rattle.go_tree.specs.Lexical.Characters.{decoded_at, Run, none, more, Ends}

some_there : (bs : List ℕ) (c : ℕ) → (decoded bs).char ≡ Some c → 0 < length bs
some_there [] c h = cc
some_there (b ∷ bs) c h = omega arith

-- a character lies within the text and has a byte
pub record Lies (bytes : List ℕ) (at : ℕ) : Type 0 where
  pub some : 0 < (decoded_at bytes at).size
  pub small : (decoded_at bytes at).size ≤ 4
  pub within : at + (decoded_at bytes at).size ≤ length bytes

pub char_lies : (bytes : List ℕ) (at c : ℕ) → (decoded_at bytes at).char ≡ Some c → Lies bytes at
char_lies bytes at c h =
    let there = some_there (drop at bytes) c h in
    let b = piece-bounds (drop at bytes) there in
    let l = length-drop at bytes in
    record { some = omega (arith, b.0); small = b.1; within = omega (arith, b.2, l, there) }

-- the same run, by its first character
pub data RunOn (p : ℕ → ℕ → Bool) (bytes : List ℕ) : ℕ → ℕ → Type 0 where
  stop : {at : ℕ} → RunOn p bytes at at
  step : {at c to : ℕ} → (decoded_at bytes at).char ≡ Some c → p (slice_index bytes (at - 1)) c ≡ true → RunOn p bytes (at + (decoded_at bytes at).size) to → RunOn p bytes at to

behind : {p : ℕ → ℕ → Bool} {bytes : List ℕ} {from at c : ℕ} → RunOn p bytes from at → (decoded_at bytes at).char ≡ Some c → p (slice_index bytes (at - 1)) c ≡ true → RunOn p bytes from (at + (decoded_at bytes at).size)
behind stop h passes = step h passes stop
behind (step g q rest) h passes = step g q (behind rest h passes)

pub run_on : {p : ℕ → ℕ → Bool} {bytes : List ℕ} {from to : ℕ} → Run p bytes from to → RunOn p bytes from to
run_on none = stop
run_on (more r h passes) = behind (run_on r) h passes

run_on_from : {p : ℕ → ℕ → Bool} {bytes : List ℕ} {from to : ℕ} → RunOn p bytes from to → from ≤ to
run_on_from stop = omega arith
run_on_from (step h passes rest) = omega (arith, run_on_from rest)

-- a run lies behind its start
pub run_from : {p : ℕ → ℕ → Bool} {bytes : List ℕ} {from to : ℕ} → Run p bytes from to → from ≤ to
run_from r = run_on_from (run_on r)

-- and within the text
pub run_within : {p : ℕ → ℕ → Bool} {bytes : List ℕ} {from to : ℕ} → from ≤ length bytes → Run p bytes from to → to ≤ length bytes
run_within le none = le
run_within le (more r h passes) = (char_lies _ _ _ h).within

-- no run goes on behind a place where it ends
longest : {p : ℕ → ℕ → Bool} {bytes : List ℕ} {from to n : ℕ} → RunOn p bytes from to → Ends p bytes to → RunOn p bytes from n → n ≤ to
longest r e stop = run_on_from r
longest stop e (step h passes rest) = absurd (e _ h passes)
longest (step g q r) e (step h passes rest) = longest r e rest

pub run_longest : {p : ℕ → ℕ → Bool} {bytes : List ℕ} {from to n : ℕ} → Run p bytes from to → Ends p bytes to → Run p bytes from n → n ≤ to
run_longest r e s = longest (run_on r) e (run_on s)

-- a run has one end
pub run_one_end : {p : ℕ → ℕ → Bool} {bytes : List ℕ} {from m n : ℕ} → Run p bytes from m → Ends p bytes m → Run p bytes from n → Ends p bytes n → m ≡ n
run_one_end r e s f = omega (arith, run_longest r e s, run_longest s f r)

-- in a run that goes on, a character that passes stands at each place before its end
inner : {p : ℕ → ℕ → Bool} {bytes : List ℕ} {from to n : ℕ} → RunOn p bytes from to → RunOn p bytes from n → n < to → (c : ℕ) × ((decoded_at bytes n).char ≡ Some c) × (p (slice_index bytes (n - 1)) c ≡ true)
inner stop s lt = absurd (omega (arith, run_on_from s, lt))
inner (step g q r) stop lt = (_, g, q)
inner (step g q r) (step h passes rest) lt = inner r rest lt

pub run_inner : {p : ℕ → ℕ → Bool} {bytes : List ℕ} {from to n : ℕ} → Run p bytes from to → Run p bytes from n → n < to → (c : ℕ) × ((decoded_at bytes n).char ≡ Some c) × (p (slice_index bytes (n - 1)) c ≡ true)
run_inner r s lt = inner (run_on r) (run_on s) lt

-- one more character of a run, as a loop takes it
pub record More (p : ℕ → ℕ → Bool) (bytes : List ℕ) (from at size : ℕ) : Type 0 where
  pub run : Run p bytes from (at + size)
  pub within : at + size ≤ length bytes
  pub some : 0 < size

pub one_more : (p : ℕ → ℕ → Bool) (bytes : List ℕ) (from at c size : ℕ) → Run p bytes from at → (decoded_at bytes at).char ≡ Some c → size ≡ (decoded_at bytes at).size → p (slice_index bytes (at - 1)) c ≡ true → More p bytes from at size
one_more p bytes from at c size run char s passes =
    let l = char_lies bytes at c char in
    record {
      run = rw s (more run char passes);
      within = rw s l.within;
      some = rw s l.some;
    }
