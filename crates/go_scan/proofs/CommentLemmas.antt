-- Lemmas on comments: where they lie, where reading one is stuck, and that one has one end.
use Rattle.std.proofs.Common.{◌≡◌, ◌≢◌, ℕ, ◌+◌, ◌<◌, ◌≤◌, ◌==◌, ◌&&◌, Bool, true, false, List, length, slice_index, Some, ◌⊎◌, refl, arith, sym, ◌∙◌, ⊎_elim}
use Rattle.std.proofs.lemmas.Bool.{cases_lt, cases_order, eqb-true, false≢true, and_parts}
use Rattle.go_tree.specs.Lexical.Characters.{decoded_at, Run, is_allowed, IsForbidden, Ends}
use Rattle.go_tree.specs.Lexical.Comments.{OpensLine, OpensGeneral, Closes, IsOpen, IsLineComment, IsGeneralComment, in_line_comment, in_general_comment}
use Rattle.go_tree.specs.Lexical.Faults.{CanGoOn, line, general, raw, string, string_escape, rune, rune_escape, rune_closes}
use Rattle.go_scan.specs.Runs.{IsAllowedChar}
use Rattle.go_scan.specs.Reading.{IsStuck}
use Rattle.go_tree.proofs.ByteLemmas.{allowed_char}
use Rattle.go_tree.proofs.ContinuationLemmas.{behind_first}
use Rattle.go_tree.proofs.SpaceLemmas.{opens_within, opens_general_within, line_ends}
use Rattle.go_tree.proofs.CharacterRunLemmas.{run_from, run_within, run_longest, run_one_end, run_inner, char_lies, one_more}

-- what could go on, by the bytes that open it
pub on_line : (bytes : List ℕ) (from n : ℕ) → OpensLine bytes from → CanGoOn bytes from n → Run in_line_comment bytes (from + 2) n
on_line bytes from n h (line o r) = r
on_line bytes from n h (general o r i) = absurd (omega (arith, h.1, o.1))
on_line bytes from n h (raw o r) = absurd (omega (arith, h.0, o))
on_line bytes from n h (string o r) = absurd (omega (arith, h.0, o))
on_line bytes from n h (string_escape o r i) = absurd (omega (arith, h.0, o))
on_line bytes from _ h (rune o) = absurd (omega (arith, h.0, o))
on_line bytes from n h (rune_escape o r) = absurd (omega (arith, h.0, o))
on_line bytes from n h (rune_closes o r) = absurd (omega (arith, h.0, o))

pub on_general : (bytes : List ℕ) (from n : ℕ) → OpensGeneral bytes from → CanGoOn bytes from n → Run in_general_comment bytes (from + 2) n
on_general bytes from n h (line o r) = absurd (omega (arith, h.1, o.1))
on_general bytes from n h (general o r i) = r
on_general bytes from n h (raw o r) = absurd (omega (arith, h.0, o))
on_general bytes from n h (string o r) = absurd (omega (arith, h.0, o))
on_general bytes from n h (string_escape o r i) = absurd (omega (arith, h.0, o))
on_general bytes from _ h (rune o) = absurd (omega (arith, h.0, o))
on_general bytes from n h (rune_escape o r) = absurd (omega (arith, h.0, o))
on_general bytes from n h (rune_closes o r) = absurd (omega (arith, h.0, o))

-- no forbidden byte stands in a run of allowed characters before its end
pub run_only : (p : ℕ → ℕ → Bool) (bytes : List ℕ) (from at n : ℕ) → ((before c : ℕ) → p before c ≡ true → is_allowed c ≡ true) → Run p bytes from at → Ends p bytes at → Run p bytes from n → IsForbidden bytes n → n ≡ at
run_only p bytes from at n allows r e s f = ⊎_elim
    (λ (lt : n < at). let i = run_inner r s lt in absurd (allowed_char bytes n i.0 i.1 (allows _ _ i.2) f))
    (λ (le : at ≤ n). omega (arith, le, run_longest r e s))
    (cases_lt n at)

line_allows : (before c : ℕ) → in_line_comment before c ≡ true → is_allowed c ≡ true
line_allows before c h = (and_parts (is_allowed c) _ h).0

general_allows : (before c : ℕ) → in_general_comment before c ≡ true → is_allowed c ≡ true
general_allows before c h = h

pub line_stuck : (bytes : List ℕ) (from at : ℕ) → OpensLine bytes from → Run in_line_comment bytes (from + 2) at → Ends in_line_comment bytes at → IsStuck bytes from at
line_stuck bytes from at h r e =
    let past = run_from r in
    record {
      could = line h r;
      behind = omega (arith, past);
      within = run_within (opens_within bytes from h) r;
      only = λ n could forbidden. run_only in_line_comment bytes (from + 2) at n line_allows r e (on_line bytes from n h could) forbidden;
    }

pub general_stuck : (bytes : List ℕ) (from at : ℕ) → OpensGeneral bytes from → Run in_general_comment bytes (from + 2) at → Ends in_general_comment bytes at → IsOpen bytes (from + 2) at → IsStuck bytes from at
general_stuck bytes from at h r e i =
    let past = run_from r in
    record {
      could = general h r i;
      behind = omega (arith, past);
      within = run_within (opens_general_within bytes from h) r;
      only = λ n could forbidden. run_only in_general_comment bytes (from + 2) at n general_allows r e (on_general bytes from n h could) forbidden;
    }

-- reading on over a character: no `*/` begins within it
pub open_on : (bytes : List ℕ) (from at c : ℕ) → IsOpen bytes from (at + 1) → (Closes bytes at → ⊥) → (decoded_at bytes at).char ≡ Some c → IsOpen bytes from (at + (decoded_at bytes at).size + 1)
open_on bytes from at c opened closed char k low high closes = ⊎_elim
    (λ (lt : k < at). opened k low (omega (arith, lt)) closes)
    (λ (ge : at ≤ k). ⊎_elim
    (λ (same : at ≡ k). closed (rw same closes))
    (λ apart. ⊎_elim
    (λ (lt : at < k). behind_first bytes 42 at k (omega arith) lt (omega (arith, high)) (char_lies bytes at c char).small closes.0)
    (λ (gt : k < at). absurd (omega (arith, ge, gt)))
    apart)
    (cases_order at k))
    (cases_lt k at)

pub open_first : (bytes : List ℕ) (from : ℕ) → IsOpen bytes from (from + 1)
open_first bytes from k low high = absurd (omega (arith, low, high))

-- what a loop over a general comment has read
pub record Inside (bytes : List ℕ) (from at : ℕ) : Type 0 where
  pub within : at ≤ length bytes
  pub run : Run in_general_comment bytes (from + 2) at
  pub opened : IsOpen bytes (from + 2) (at + 1)

pub inside_on : (bytes : List ℕ) (from at size : ℕ) → Inside bytes from at → ((slice_index bytes at == 42) && (slice_index bytes (at + 1) == 47)) ≡ false → IsAllowedChar bytes at size → Inside bytes from (at + size)
inside_on bytes from at size i apart h =
    let m = one_more in_general_comment bytes (from + 2) at h.c size i.run h.char h.size h.allowed in
    record { within = m.within; run = m.run; opened = rw h.size (open_on bytes (from + 2) at h.c i.opened (λ closes. false≢true (sym apart ∙ both_bytes closes)) h.char) }
  where
    both_bytes : Closes bytes at → ((slice_index bytes at == 42) && (slice_index bytes (at + 1) == 47)) ≡ true
    both_bytes closes = rw (closes.0, closes.1) refl

pub inside_moves : (bytes : List ℕ) (at size : ℕ) → IsAllowedChar bytes at size → (0 < size) × (at + size ≤ length bytes)
inside_moves bytes at size h = let l = char_lies bytes at h.c h.char in (rw h.size l.some, rw h.size l.within)

pub closing : (bytes : List ℕ) (at : ℕ) → ((slice_index bytes at == 42) && (slice_index bytes (at + 1) == 47)) ≡ true → Closes bytes at
closing bytes at h = let p = and_parts (slice_index bytes at == 42) _ h in (eqb-true _ _ p.0, eqb-true _ _ p.1)

pub line_none : (bytes : List ℕ) (from at : ℕ) → Run in_line_comment bytes (from + 2) at → Ends in_line_comment bytes at → (at ≡ length bytes → ⊥) → (slice_index bytes at ≡ 10 → ⊥) → (to : ℕ) → IsLineComment bytes from to → ⊥
line_none bytes from at r e inner other to h =
    let same = run_one_end h.inside (line_ends bytes to h.ends) r e in
    ⊎_elim
    (λ (last : to ≡ length bytes). inner (sym same ∙ last))
    (λ (newline : slice_index bytes to ≡ 10). other (rw same at newline))
    h.ends

pub general_none : (bytes : List ℕ) (from at : ℕ) → Inside bytes from at → Ends in_general_comment bytes at → (Closes bytes at → ⊥) → (to : ℕ) → IsGeneralComment bytes from to → ⊥
general_none bytes from at i e apart to h = ⊎_elim
    (λ (lt : h.close < at). i.opened h.close (run_from h.inside) (omega (arith, lt)) h.closes)
    (λ (ge : at ≤ h.close). let le = run_longest i.run e h.inside in let same : h.close ≡ at = omega (arith, ge, le) in apart (rw same at h.closes))
    (cases_lt h.close at)

pub open_short : (bytes : List ℕ) (from at : ℕ) → IsOpen bytes from (at + 1) → IsOpen bytes from at
open_short bytes from at opened k low high = opened k low (omega (arith, high))

pub not_closing : (bytes : List ℕ) (at : ℕ) → ((slice_index bytes at == 42) && (slice_index bytes (at + 1) == 47)) ≡ false → Closes bytes at → ⊥
not_closing bytes at h closes = false≢true (sym h ∙ rw (closes.0, closes.1) refl)
