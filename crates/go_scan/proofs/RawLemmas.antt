-- Lemmas on raw string literals.
use Rattle.std.proofs.Common.{◌≡◌, ◌≢◌, ℕ, ◌+◌, ◌-◌, ◌<◌, ◌≤◌, true, List, length, slice_index, Some, refl, sym, ap, ◌∙◌, arith, ⊎_elim}
use Rattle.std.proofs.lemmas.Bool.{cases_lt, cases_order, and_parts}
use Rattle.std.proofs.lemmas.Bool.Decides.{nat_tests}
use Rattle.go_tree.specs.Lexical.Characters.{decoded_at, IsForbidden, Run, Ends}
use Rattle.go_tree.specs.Lexical.Literals.{in_raw, IsRawLit}
use Rattle.go_tree.specs.Lexical.Faults.{CanGoOn, raw}
use Rattle.go_scan.specs.Reading.{IsStuck}
use Rattle.go_tree.proofs.CharacterRunLemmas.{run_from, run_longest, run_inner}
use Rattle.go_tree.proofs.ByteLemmas.{there, ascii_char, allowed_char}

-- where no byte of a raw literal goes on, and it does not close
pub record RawEnds (bytes : List ℕ) (from at : ℕ) : Type 0 where
  pub opens : slice_index bytes from ≡ 96
  pub run : Run in_raw bytes (from + 1) at
  pub unclosed : slice_index bytes at ≢ 96
  pub ends : Ends in_raw bytes at

no_quote : (c : ℕ) (before : ℕ) → in_raw before c ≡ true → c ≡ 96 → ⊥
no_quote c before passes e = grind (arith, nat_tests)

-- inside a raw literal stands no back quote
inside_no_quote : (bytes : List ℕ) (at c : ℕ) → (decoded_at bytes at).char ≡ Some c → in_raw (slice_index bytes (at - 1)) c ≡ true → slice_index bytes at ≡ 96 → ⊥
inside_no_quote bytes at c char passes q =
    let char2 = ascii_char bytes at (there bytes at 96 q (omega arith)) (omega arith) in
    let e : c ≡ slice_index bytes at = (let both : Some c ≡ Some (slice_index bytes at) = sym char ∙ char2 in cc) in
    no_quote c (slice_index bytes (at - 1)) passes (e ∙ q)

pub raw_none : (bytes : List ℕ) (from at : ℕ) → RawEnds bytes from at → (to : ℕ) → IsRawLit bytes from to → ⊥
raw_none bytes from at e to lit =
    ⊎_elim
    (λ (lt : lit.close < at). let i = run_inner e.run lit.inside lt in inside_no_quote bytes lit.close i.0 i.1 i.2 lit.closes)
    (λ (ge : at ≤ lit.close). let same : lit.close ≡ at = omega (arith, run_longest e.run e.ends lit.inside) in e.unclosed (sym (ap (λ n. slice_index bytes n) same) ∙ lit.closes))
    (cases_lt lit.close at)

forbidden_at : (bytes : List ℕ) (from at n : ℕ) → RawEnds bytes from at → Run in_raw bytes (from + 1) n → IsForbidden bytes n → n ≡ at
forbidden_at bytes from at n e run bad =
    ⊎_elim
    (λ (lt : n < at). let i = run_inner e.run run lt in absurd (allowed_char bytes n i.0 i.1 (and_parts _ _ i.2).0 bad))
    (λ (ge : at ≤ n). let le = run_longest e.run e.ends run in omega arith)
    (cases_lt n at)

only_raw : (bytes : List ℕ) (from at n : ℕ) → RawEnds bytes from at → CanGoOn bytes from n → IsForbidden bytes n → n ≡ at
only_raw bytes from at n e (CanGoOn.line opens run) bad = absurd (let a = opens.0 in let b = e.opens in omega (arith, a, b))
only_raw bytes from at n e (CanGoOn.general opens run rest) bad = absurd (let a = opens.0 in let b = e.opens in omega (arith, a, b))
only_raw bytes from at n e (CanGoOn.raw opens run) bad = forbidden_at bytes from at n e run bad
only_raw bytes from at n e (CanGoOn.string opens run) bad = absurd (let b = e.opens in omega (arith, opens, b))
only_raw bytes from at n e (CanGoOn.string_escape opens run escape) bad = absurd (let b = e.opens in omega (arith, opens, b))
only_raw bytes from at _ e (CanGoOn.rune opens) bad = absurd (let b = e.opens in omega (arith, opens, b))
only_raw bytes from at n e (CanGoOn.rune_escape opens escape) bad = absurd (let b = e.opens in omega (arith, opens, b))
only_raw bytes from at n e (CanGoOn.rune_closes opens whole) bad = absurd (let b = e.opens in omega (arith, opens, b))

pub raw_stuck : (bytes : List ℕ) (from at : ℕ) → at ≤ length bytes → RawEnds bytes from at → IsStuck bytes from at
raw_stuck bytes from at le e = record {
  could = raw e.opens e.run;
  behind = omega (arith, run_from e.run);
  within = le;
  only = λ n can bad. only_raw bytes from at n e can bad;
}

pub raw_whole : (bytes : List ℕ) (from at : ℕ) → slice_index bytes from ≡ 96 → Run in_raw bytes (from + 1) at → slice_index bytes at ≡ 96 → IsRawLit bytes from (at + 1)
raw_whole bytes from at opens run closes = record { opens = opens; close = at; inside = run; closes = closes; ends = refl }

pub one_raw : (bytes : List ℕ) (from m n : ℕ) → IsRawLit bytes from m → IsRawLit bytes from n → m ≡ n
one_raw bytes from m n a b =
    let e = a.ends in
    let f = b.ends in
    ⊎_elim
    (λ (same : a.close ≡ b.close). omega arith)
    (⊎_elim
    (λ (lt : a.close < b.close). let i = run_inner b.inside a.inside lt in absurd (inside_no_quote bytes a.close i.0 i.1 i.2 a.closes))
    (λ (gt : b.close < a.close). let i = run_inner a.inside b.inside gt in absurd (inside_no_quote bytes b.close i.0 i.1 i.2 b.closes)))
    (cases_order a.close b.close)

-- a raw literal has both its quotes, and lies within the text
pub raw_lit_within : (bytes : List ℕ) (from to : ℕ) → IsRawLit bytes from to → (from + 2 ≤ to) × (to ≤ length bytes)
raw_lit_within bytes from to lit = let t = there bytes lit.close 96 lit.closes (omega arith) in let f = run_from lit.inside in let e = lit.ends in (omega (arith, f, e), omega (arith, t, e))
