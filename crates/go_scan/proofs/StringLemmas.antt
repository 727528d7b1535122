-- Lemmas on the insides of string literals.
use Rattle.std.proofs.Common.{false, refl, sym, eq-eqb, ne_eqb, ◌==◌, slice_range, ◌≡◌, ◌≢◌, ℕ, zero, suc, ◌+◌, ◌-◌, ◌<◌, ◌≤◌, true, List, length, drop, slice_index, Some, ap, subst, ◌∙◌, arith, inl, inr}
use Rattle.std.proofs.lemmas.Bool.{cond-true, cond-false}
use Rattle.std.proofs.lemmas.Bool.Decides.{nat_tests}
use Rattle.std.proofs.lemmas.List.{get_or-drop}
use Rattle.bstr.specs.Utf8.{Decoded, decoded, good, second, continues}
use Rattle.bstr.proofs.lemmas.PieceLemmas.{Shape, decoded_by-shape}
use Rattle.go_tree.specs.Lexical.Characters.{decoded_at}
use Rattle.go_tree.specs.Lexical.Literals.{is_itself, IsCharacter, itself, escaped, IsInterpretedLit}
use Rattle.go_tree.specs.Lexical.LiteralValues.{inside_of, string_lit_value, unescaped, without_returns}
use Rattle.go_scan.proofs.InsideLemmas.{inside_range}
use Rattle.go_scan.proofs.RawLemmas.{raw_lit_within}
use Rattle.go_scan.specs.Quoted.{IsStringLit, Escapes, done, byte, escape}
use Rattle.go_tree.proofs.ByteLemmas.{range_cons, bad_none}
use Rattle.go_scan.proofs.LiteralCharacterLemmas.{backslash, not_itself}
use Rattle.go_scan.proofs.QuotedLemmas.{CharactersOn, stop, step, characters_on, on_from, interpreted_lit_within}

-- the bytes of a character behind its first are not ASCII
record Rest (size c d e : ℕ) : Type 0 where
  small : size ≤ 4
  two : 2 ≤ size → 128 ≤ c
  three : 3 ≤ size → 128 ≤ d
  four : 4 ≤ size → 128 ≤ e

second_wide : (b c : ℕ) → second b c ≡ true → 128 ≤ c
second_wide b c h = grind (arith, nat_tests)

continues_wide : (c : ℕ) → continues c ≡ true → 128 ≤ c
continues_wide c h = grind (arith, nat_tests)

size_is : (r : Decoded) (code k : ℕ) → r ≡ good code k → r.size ≡ k
size_is r code k e = ap (λ (d : Decoded). d.size) e

rest_1 : (size c d e : ℕ) → size ≡ 1 → Rest size c d e
rest_1 size c d e s = record { small = omega arith; two = λ h. absurd (omega arith); three = λ h. absurd (omega arith); four = λ h. absurd (omega arith) }

rest_2 : (size c d e : ℕ) → size ≡ 2 → 128 ≤ c → Rest size c d e
rest_2 size c d e s x = record { small = omega arith; two = λ h. x; three = λ h. absurd (omega arith); four = λ h. absurd (omega arith) }

rest_3 : (size c d e : ℕ) → size ≡ 3 → 128 ≤ c → 128 ≤ d → Rest size c d e
rest_3 size c d e s x y = record { small = omega arith; two = λ h. x; three = λ h. y; four = λ h. absurd (omega arith) }

rest_4 : (size c d e : ℕ) → size ≡ 4 → 128 ≤ c → 128 ≤ d → 128 ≤ e → Rest size c d e
rest_4 size c d e s x y z = record { small = omega arith; two = λ h. x; three = λ h. y; four = λ h. z }

rest : (r : Decoded) (n b c d e : ℕ) → Shape r n b c d e → (x : ℕ) → r.char ≡ Some x → Rest r.size c d e
rest r n b c d e (inl s) x h = absurd (bad_none r _ x s.1 h)
rest r n b c d e (inr (inl s)) x h = rest_1 r.size c d e (size_is r _ _ s.2)
rest r n b c d e (inr (inr (inl s))) x h = absurd (bad_none r _ x s.3 h)
rest r n b c d e (inr (inr (inr (inl s)))) x h = absurd (bad_none r _ x s.2 h)
rest r n b c d e (inr (inr (inr (inr (inl s))))) x h = absurd (bad_none r _ x s.4 h)
rest r n b c d e (inr (inr (inr (inr (inr (inl s)))))) x h = absurd (bad_none r _ x s.4 h)
rest r n b c d e (inr (inr (inr (inr (inr (inr (inl s))))))) x h = rest_2 r.size c d e (size_is r _ _ s.4) (second_wide b c s.3)
rest r n b c d e (inr (inr (inr (inr (inr (inr (inr (inl s)))))))) x h = absurd (bad_none r _ x s.5 h)
rest r n b c d e (inr (inr (inr (inr (inr (inr (inr (inr (inl s))))))))) x h = absurd (bad_none r _ x s.5 h)
rest r n b c d e (inr (inr (inr (inr (inr (inr (inr (inr (inr (inl s)))))))))) x h = rest_3 r.size c d e (size_is r _ _ s.5) (second_wide b c s.3) (continues_wide d s.4)
rest r n b c d e (inr (inr (inr (inr (inr (inr (inr (inr (inr (inr (inl s))))))))))) x h = absurd (bad_none r _ x s.6 h)
rest r n b c d e (inr (inr (inr (inr (inr (inr (inr (inr (inr (inr (inr (inl s)))))))))))) x h = absurd (bad_none r _ x s.6 h)
rest r n b c d e (inr (inr (inr (inr (inr (inr (inr (inr (inr (inr (inr (inr s)))))))))))) x h = rest_4 r.size c d e (size_is r _ _ s.6) (second_wide b c s.3) (continues_wide d s.4) (continues_wide e s.5)

rest_of : (bs : List ℕ) (x : ℕ) → (decoded bs).char ≡ Some x → Rest (decoded bs).size (slice_index bs 1) (slice_index bs 2) (slice_index bs 3)
rest_of bs x h = rest (decoded bs) (length bs) (slice_index bs 0) (slice_index bs 1) (slice_index bs 2) (slice_index bs 3) (decoded_by-shape (length bs) (slice_index bs 0) (slice_index bs 1) (slice_index bs 2) (slice_index bs 3)) x h

-- no byte of a character that stands for itself is a backslash
not_there : (bytes : List ℕ) (at c k : ℕ) (quote : ℕ) → (decoded_at bytes at).char ≡ Some c → is_itself quote c ≡ true → k < (decoded_at bytes at).size → slice_index bytes (at + k) ≢ 92
not_there bytes at c zero quote char ok lt = λ e. not_itself quote c (backslash bytes at c (ap (λ n. slice_index bytes n) (let z : at ≡ at + 0 = omega arith in z) ∙ e) char) ok
not_there bytes at c (suc zero) quote char ok lt = λ e. let r = rest_of (drop at bytes) c char in let g = get_or-drop at bytes 1 0 in let w = r.two lt in omega arith
not_there bytes at c (suc (suc zero)) quote char ok lt = λ e. let r = rest_of (drop at bytes) c char in let g = get_or-drop at bytes 2 0 in let w = r.three lt in omega arith
not_there bytes at c (suc (suc (suc zero))) quote char ok lt = λ e. let r = rest_of (drop at bytes) c char in let g = get_or-drop at bytes 3 0 in let w = r.four lt in omega arith
not_there bytes at c (suc (suc (suc (suc k)))) quote char ok lt = λ e. let r = rest_of (drop at bytes) c char in let w = r.small in omega arith

bytes_before : (bytes : List ℕ) (close at n : ℕ) → Escapes bytes close (at + n) → at + n ≤ close → ((k : ℕ) → k < n → slice_index bytes (at + k) ≢ 92) → Escapes bytes close at
bytes_before bytes close at zero s le plain = subst (λ (k : ℕ). Escapes bytes close k) (let z : at + 0 ≡ at = omega arith in z) s
bytes_before bytes close at (suc n) s le plain =
    bytes_before bytes close at n
    (byte (omega arith) (plain n (omega arith)) (subst (λ (k : ℕ). Escapes bytes close k) (let z : at + suc n ≡ at + n + 1 = omega arith in z) s))
    (omega arith)
    (λ k lt. plain k (omega arith))

one_before : (bytes : List ℕ) (close at to : ℕ) → IsCharacter 34 bytes at to → to ≤ close → Escapes bytes close to → Escapes bytes close at
one_before bytes close at _ (itself {c} char ok) le s = bytes_before bytes close at (decoded_at bytes at).size s le (λ k lt. not_there bytes at c k 34 char ok lt)
one_before bytes close at to (escaped opens within h) le s = escape opens h le s

escapes_of : {bytes : List ℕ} {close at : ℕ} → close ≤ length bytes → CharactersOn 34 bytes at close → Escapes bytes close at
escapes_of within stop = done within
escapes_of within (step c r) = one_before _ _ _ _ c (on_from r) (escapes_of within r)

-- the inside of an interpreted string literal
pub string_escapes : (bytes : List ℕ) (from to : ℕ) → IsInterpretedLit bytes from to → Escapes bytes (to - 1) (from + 1)
string_escapes bytes from to lit =
    let ends = lit.ends in
    let w = interpreted_lit_within bytes from to lit in
    let same : lit.close ≡ to - 1 = omega arith in
    subst (λ (k : ℕ). Escapes bytes k (from + 1)) same (escapes_of (omega (arith, w.1)) (characters_on lit.inside))

pub string_within : (bytes : List ℕ) (from to : ℕ) → IsStringLit bytes from to → (from + 2 ≤ to) × (to ≤ length bytes)
string_within bytes from to (inl lit) = interpreted_lit_within bytes from to lit
string_within bytes from to (inr lit) = raw_lit_within bytes from to lit

-- a literal that does not open with a back quote is an interpreted one
pub interpreted_escapes : (bytes : List ℕ) (from to : ℕ) → IsStringLit bytes from to → slice_index bytes from ≢ 96 → Escapes bytes (to - 1) (from + 1)
interpreted_escapes bytes from to (inl lit) ne = string_escapes bytes from to lit
interpreted_escapes bytes from to (inr lit) ne = absurd (ne lit.opens)

pub raw_value : (bytes : List ℕ) (from to : ℕ) → IsStringLit bytes from to → slice_index bytes from ≡ 96 → string_lit_value (slice_range bytes from to) ≡ without_returns (slice_range bytes (from + 1) (to - 1))
raw_value bytes from to lit quote =
    let w = string_within bytes from to lit in
    let some = w.0 in
    let cons = range_cons bytes from to (omega arith) (omega (arith, w.1)) in
    let is : (slice_index bytes from == 96) ≡ true = eq-eqb _ _ quote in
    ap string_lit_value cons
    ∙ cond-true (slice_index bytes from == 96) _ _ is
    ∙ ap (λ t. without_returns (inside_of t)) (sym cons)
    ∙ ap without_returns (inside_range bytes from to (slice_range bytes from to) refl w.0 w.1).1

pub interpreted_value : (bytes : List ℕ) (from to : ℕ) → IsStringLit bytes from to → slice_index bytes from ≢ 96 → string_lit_value (slice_range bytes from to) ≡ unescaped 0 (slice_range bytes (from + 1) (to - 1))
interpreted_value bytes from to lit other =
    let w = string_within bytes from to lit in
    let some = w.0 in
    let cons = range_cons bytes from to (omega arith) (omega (arith, w.1)) in
    let is : (slice_index bytes from == 96) ≡ false = ne_eqb _ _ other in
    ap string_lit_value cons
    ∙ cond-false (slice_index bytes from == 96) _ _ is
    ∙ ap (λ t. unescaped 0 (inside_of t)) (sym cons)
    ∙ ap (λ t. unescaped 0 t) (inside_range bytes from to (slice_range bytes from to) refl w.0 w.1).1
