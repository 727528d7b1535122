-- Lemmas on single bytes, ASCII characters and ranges of a text.
use Rattle.std.proofs.Common.{◌≡◌, ℕ, suc, ◌+◌, ◌-◌, ◌<◌, ◌≤◌, true, false, List, [], ◌∷◌, ◌++◌, length, take, drop, slice_index, Some, None, refl, sym, ap, subst, ◌∙◌, arith, length-drop, ⊎_elim, inl, inr, add-one, drop-cons}
use Rattle.std.specs.Prelude.{slice_range, ◌==◌, nat_lt}
use Rattle.std.proofs.lemmas.List.{get_or-drop, get_or_past, length-take-le, drop-drop}
use Rattle.std.proofs.lemmas.Bool.{cond-true, cond-false, lt-ltb, ne_eqb, cases_lt, cases_eq}
use Rattle.std.proofs.lemmas.Bool.Decides.{nat_tests}
use Rattle.std.proofs.Math.Seq.{take-add}
use Rattle.bstr.specs.Utf8.{decoded, Decoded, bad, good, second, code_of_3, code_of_4}
use Rattle.bstr.proofs.lemmas.PieceLemmas.{Shape, decoded_by-shape}
use Rattle.go_tree.specs.Lexical.Characters.{decoded_at, is_allowed, is_forbidden, IsForbidden}
use Rattle.go_tree.proofs.CharacterRunLemmas.{char_lies}

-- a byte that is not 0 stands within the text
pub there : (bytes : List ℕ) (at b : ℕ) → slice_index bytes at ≡ b → 0 < b → at < length bytes
there bytes at b e some = ⊎_elim (λ lt. lt) (λ le. absurd (let past : slice_index bytes at ≡ 0 = get_or_past bytes at 0 le in omega (arith, past, e, some))) (cases_lt at (length bytes))

ascii : (bs : List ℕ) → 0 < length bs → slice_index bs 0 < 128 → decoded bs ≡ good (slice_index bs 0) 1
ascii bs some small =
    let n : (length bs == 0) ≡ false = ne_eqb (length bs) 0 (λ e. omega (arith, e, some)) in
    let b : nat_lt (slice_index bs 0) 128 ≡ true = lt-ltb (slice_index bs 0) 128 small in
    cond-false _ _ _ n ∙ cond-true _ _ _ b

first_of_drop : (bytes : List ℕ) (at : ℕ) → slice_index (drop at bytes) 0 ≡ slice_index bytes at
first_of_drop bytes at = get_or-drop at bytes 0 0 ∙ ap (λ n. slice_index bytes n) (omega arith)

-- an ASCII byte is a character of one byte
pub ascii_at : (bytes : List ℕ) (at : ℕ) → at < length bytes → slice_index bytes at < 128 → decoded_at bytes at ≡ good (slice_index bytes at) 1
ascii_at bytes at lt small =
    let l = length-drop at bytes in
    let e = first_of_drop bytes at in
    ascii (drop at bytes) (omega (arith, l)) (omega (arith, e)) ∙ ap (λ b. good b 1) e

pub ascii_char : (bytes : List ℕ) (at : ℕ) → at < length bytes → slice_index bytes at < 128 → (decoded_at bytes at).char ≡ Some (slice_index bytes at)
ascii_char bytes at lt small = ap (λ (d : Decoded). d.char) (ascii_at bytes at lt small)

pub ascii_size : (bytes : List ℕ) (at : ℕ) → at < length bytes → slice_index bytes at < 128 → (decoded_at bytes at).size ≡ 1
ascii_size bytes at lt small = ap (λ (d : Decoded). d.size) (ascii_at bytes at lt small)

-- the same of a byte that is given
pub byte_within : (bytes : List ℕ) (at b : ℕ) → slice_index bytes at ≡ suc b → at < length bytes
byte_within bytes at b h = there bytes at (suc b) h (omega arith)

pub byte_char : (bytes : List ℕ) (at b : ℕ) → slice_index bytes at ≡ suc b → suc b < 128 → (decoded_at bytes at).char ≡ Some (suc b)
byte_char bytes at b h lt = ascii_char bytes at (byte_within bytes at b h) (omega (arith, h, lt)) ∙ ap Some h

pub byte_size : (bytes : List ℕ) (at b : ℕ) → slice_index bytes at ≡ suc b → suc b < 128 → (decoded_at bytes at).size ≡ 1
byte_size bytes at b h lt = ascii_size bytes at (byte_within bytes at b h) (omega (arith, h, lt))

-- the byte is ASCII, and not NUL
abbrev pub IsPlain : ℕ → Type 0
IsPlain b = (0 < b) × (b < 128)

pub allowed_some : (at c : ℕ) → is_allowed c ≡ true → is_forbidden at (Some c) ≡ true → ⊥
allowed_some at c ok bad = grind (arith, nat_tests)

-- no allowed character is forbidden
pub allowed_char : (bytes : List ℕ) (at c : ℕ) → (decoded_at bytes at).char ≡ Some c → is_allowed c ≡ true → IsForbidden bytes at → ⊥
allowed_char bytes at c char ok bad = allowed_some at c ok (sym (ap (is_forbidden at) char) ∙ bad.1)

plain_allowed : (b : ℕ) → IsPlain b → is_allowed b ≡ true
plain_allowed b h = grind (arith, nat_tests)

-- nor is a plain byte
pub plain_byte : (bytes : List ℕ) (at : ℕ) → IsPlain (slice_index bytes at) → IsForbidden bytes at → ⊥
plain_byte bytes at plain bad = allowed_char bytes at (slice_index bytes at) (ascii_char bytes at bad.0 plain.1) (plain_allowed _ plain) bad

-- a range that has a byte, by its first
pub range_cons : (bytes : List ℕ) (a c : ℕ) → a < c → a < length bytes → slice_range bytes a c ≡ slice_index bytes a ∷ slice_range bytes (a + 1) c
range_cons bytes a c lt there =
    let d = drop-cons bytes a 0 there in
    let n : c - a ≡ suc (c - (a + 1)) = omega arith in
    rw (d, n, add-one) refl

pub range_split : (bytes : List ℕ) (a b c : ℕ) → a ≤ b → b ≤ c → slice_range bytes a c ≡ slice_range bytes a b ++ slice_range bytes b c
range_split bytes a b c ab bc =
    let n : c - a ≡ (b - a) + (c - b) = omega arith in
    let m : a + (b - a) ≡ b = omega arith in
    ap (λ k. take k (drop a bytes)) n ∙ take-add (b - a) (c - b) (drop a bytes) ∙ ap (λ l. take (b - a) (drop a bytes) ++ take (c - b) l) (drop-drop (b - a) a bytes ∙ ap (λ k. drop k bytes) m)

pub range_empty : (bytes : List ℕ) (a : ℕ) → slice_range bytes a a ≡ []
range_empty bytes a = let e : a - a ≡ 0 = omega arith in rw e refl

pub range_length : (bytes : List ℕ) (a b : ℕ) → a ≤ b → b ≤ length bytes → length (slice_range bytes a b) ≡ b - a
range_length bytes a b le within = let l = length-drop a bytes in length-take-le (b - a) (drop a bytes) (omega (arith, l))

second_e0 : (c : ℕ) → second 224 c ≡ true → 160 ≤ c
second_e0 c h = grind (arith, nat_tests)

second_f0 : (c : ℕ) → second 240 c ≡ true → 144 ≤ c
second_f0 c h = grind (arith, nat_tests)

three_wide : (b c d : ℕ) → 224 ≤ b → second b c ≡ true → 128 ≤ code_of_3 b c d
three_wide b c d low h = ⊎_elim (λ (e : b ≡ 224). let k : 160 ≤ c = second_e0 c (subst (λ (y : ℕ). second y c ≡ true) e h) in omega arith) (λ (n : b ≡ 224 → ⊥). omega arith) (cases_eq b 224)

four_wide : (b c d e : ℕ) → 240 ≤ b → second b c ≡ true → 128 ≤ code_of_4 b c d e
four_wide b c d e low h = ⊎_elim (λ (same : b ≡ 240). let k : 144 ≤ c = second_f0 c (subst (λ (y : ℕ). second y c ≡ true) same h) in omega arith) (λ (n : b ≡ 240 → ⊥). omega arith) (cases_eq b 240)

pub bad_none : (r : Decoded) (k x : ℕ) → r ≡ bad k → r.char ≡ Some x → ⊥
bad_none r k x e h = let n : r.char ≡ None = ap (λ (d : Decoded). d.char) e in cc

good_code : (r : Decoded) (code k x : ℕ) → r ≡ good code k → r.char ≡ Some x → x ≡ code
good_code r code k x e h = let n : r.char ≡ Some code = ap (λ (d : Decoded). d.char) e in cc

wide : (r : Decoded) (n b c d e : ℕ) → Shape r n b c d e → 128 ≤ b → (x : ℕ) → r.char ≡ Some x → 128 ≤ x
wide r n b c d e (inl s) low x h = absurd (bad_none r _ x s.1 h)
wide r n b c d e (inr (inl s)) low x h = absurd (omega (arith, s.1))
wide r n b c d e (inr (inr (inl s))) low x h = absurd (bad_none r _ x s.3 h)
wide r n b c d e (inr (inr (inr (inl s)))) low x h = absurd (bad_none r _ x s.2 h)
wide r n b c d e (inr (inr (inr (inr (inl s))))) low x h = absurd (bad_none r _ x s.4 h)
wide r n b c d e (inr (inr (inr (inr (inr (inl s)))))) low x h = absurd (bad_none r _ x s.4 h)
wide r n b c d e (inr (inr (inr (inr (inr (inr (inl s))))))) low x h = let q = good_code r _ _ x s.4 h in omega (arith, s.1, q)
wide r n b c d e (inr (inr (inr (inr (inr (inr (inr (inl s)))))))) low x h = absurd (bad_none r _ x s.5 h)
wide r n b c d e (inr (inr (inr (inr (inr (inr (inr (inr (inl s))))))))) low x h = absurd (bad_none r _ x s.5 h)
wide r n b c d e (inr (inr (inr (inr (inr (inr (inr (inr (inr (inl s)))))))))) low x h = let q = good_code r _ _ x s.5 h in omega (arith, three_wide b c d s.1 s.3, q)
wide r n b c d e (inr (inr (inr (inr (inr (inr (inr (inr (inr (inr (inl s))))))))))) low x h = absurd (bad_none r _ x s.6 h)
wide r n b c d e (inr (inr (inr (inr (inr (inr (inr (inr (inr (inr (inr (inl s)))))))))))) low x h = absurd (bad_none r _ x s.6 h)
wide r n b c d e (inr (inr (inr (inr (inr (inr (inr (inr (inr (inr (inr (inr s)))))))))))) low x h = let q = good_code r _ _ x s.6 h in omega (arith, four_wide b c d e s.1 s.3, q)

wide_char : (bs : List ℕ) (x : ℕ) → 128 ≤ slice_index bs 0 → (decoded bs).char ≡ Some x → 128 ≤ x
wide_char bs x low h = wide (decoded bs) (length bs) (slice_index bs 0) (slice_index bs 1) (slice_index bs 2) (slice_index bs 3) (decoded_by-shape (length bs) (slice_index bs 0) (slice_index bs 1) (slice_index bs 2) (slice_index bs 3)) low x h

-- a character below 128 is its byte
pub small_char : (bytes : List ℕ) (at c : ℕ) → (decoded_at bytes at).char ≡ Some c → c < 128 → slice_index bytes at ≡ c
small_char bytes at c char small =
    let l = char_lies bytes at c char in
    ⊎_elim
    (λ (lt : slice_index bytes at < 128). let char2 = ascii_char bytes at (omega (arith, l.some, l.within)) lt in let both : Some (slice_index bytes at) ≡ Some c = sym char2 ∙ char in (cc))
    (λ (ge : 128 ≤ slice_index bytes at). let e = first_of_drop bytes at in let w = wide_char (drop at bytes) c (omega (arith, e)) char in absurd (omega arith))
    (cases_lt (slice_index bytes at) 128)

-- a range with one more byte
pub range_snoc : (bytes : List ℕ) (a b : ℕ) → a ≤ b → b < length bytes → slice_range bytes a (b + 1) ≡ slice_range bytes a b ++ slice_index bytes b ∷ []
range_snoc bytes a b le lt =
    range_split bytes a b (b + 1) le (omega arith)
    ∙ ap (λ xs. slice_range bytes a b ++ xs) (range_cons bytes b (b + 1) (omega arith) lt ∙ ap (λ xs. slice_index bytes b ∷ xs) (range_empty bytes (b + 1)))
