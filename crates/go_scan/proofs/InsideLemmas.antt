-- Lemmas on the insides of rune and string literals.
use Rattle.std.proofs.Common.{◌≡◌, ℕ, zero, suc, ◌+◌, ◌-◌, ◌≤◌, List, [], ◌∷◌, length, take, drop, slice_index, refl, sym, ap, subst, ◌∙◌, arith}
use Rattle.std.specs.Prelude.{slice_range}
use Rattle.std.proofs.lemmas.List.{drop-take, drop-drop}
use Rattle.go_tree.specs.Lexical.Literals.{IsCharacter, itself, escaped}
use Rattle.go_tree.specs.Lexical.LiteralValues.{inside_of}
use Rattle.go_scan.specs.Escapes.{IsEscape}
use Rattle.go_scan.specs.Quoted.{IsRuneText, IsRuneInside}
use Rattle.go_tree.proofs.ByteLemmas.{range_cons, range_length}
use Rattle.go_scan.proofs.LiteralCharacterLemmas.{character_from, not_itself, backslash, in_range}
use Rattle.go_scan.proofs.QuotedLemmas.{rune_quote, rune_lit_within}

pub take_front : (m n : ℕ) (xs : List ℕ) → m ≤ n → take m (take n xs) ≡ take m xs
take_front zero n xs le = refl
take_front (suc m) zero xs le = absurd (omega arith)
take_front (suc m) (suc n) [] le = refl
take_front (suc m) (suc n) (x ∷ xs) le = ap (λ ys. x ∷ ys) (take_front m n xs (omega arith))

-- a range of a range
pub range_range : (bytes : List ℕ) (a b i j : ℕ) → i ≤ j → a + j ≤ b → slice_range (slice_range bytes a b) i j ≡ slice_range bytes (a + i) (a + j)
range_range bytes a b i j ij jb =
    let n : b - a ≡ i + (b - a - i) = omega arith in
    let e : drop i (take (b - a) (drop a bytes)) ≡ take (b - a - i) (drop (a + i) bytes) = ap (λ k. drop i (take k (drop a bytes))) n ∙ drop-take i (b - a - i) (drop a bytes) ∙ ap (λ xs. take (b - a - i) xs) (drop-drop i a bytes) in
    let m : a + j - (a + i) ≡ j - i = omega arith in
    ap (λ xs. take (j - i) xs) e ∙ take_front (j - i) (b - a - i) (drop (a + i) bytes) (omega arith) ∙ ap (λ k. take k (drop (a + i) bytes)) (sym m)

-- a character that begins with a backslash is an escape
pub escape_of : (quote : ℕ) (bytes : List ℕ) (at to : ℕ) → IsCharacter quote bytes at to → slice_index bytes at ≡ 92 → IsEscape quote (slice_range bytes (at + 1) to)
escape_of quote bytes at _ (itself {c} char ok) opens = absurd (not_itself quote c (backslash bytes at c opens char) ok)
escape_of quote bytes at to (escaped opens within h) _ = h

pub inside_range : (bytes : List ℕ) (from to : ℕ) (text : List ℕ) → text ≡ slice_range bytes from to → from + 2 ≤ to → to ≤ length bytes → (2 ≤ length text) × (inside_of text ≡ slice_range bytes (from + 1) (to - 1))
inside_range bytes from to text is some within =
    let l = ap length is ∙ range_length bytes from to (omega arith) within in
    let n : from + (length text - 1) ≡ to - 1 = omega arith in
    (omega arith, ap (λ xs. slice_range xs 1 (length text - 1)) is ∙ range_range bytes from to 1 (length text - 1) (omega arith) (omega arith) ∙ ap (λ k. slice_range bytes (from + 1) k) n)

range_inside : (bytes : List ℕ) (from close : ℕ) → IsCharacter 39 bytes from close → IsRuneInside (slice_range bytes from close)
range_inside bytes from close c =
    let f = character_from 39 bytes from close c in
    let some = f.0 in
    let l = range_length bytes from close (omega arith) f.1 in
    let z : from - from ≡ 0 = omega arith in
    let first : slice_index (slice_range bytes from close) 0 ≡ slice_index bytes from = ap (λ k. slice_index (slice_range bytes from close) k) (sym z) ∙ in_range bytes from close from (omega arith) some in
    record {
      some = omega arith;
      escape = λ e.
          let h = escape_of 39 bytes from close c (sym first ∙ e) in
          let d : drop 1 (slice_range bytes from close) ≡ slice_range bytes (from + 1) close = ap (λ xs. drop 1 xs) (range_cons bytes from close some (omega (arith, f.1))) in
          record { quote = 39; is_quote = rune_quote; is = subst (λ (xs : List ℕ). IsEscape 39 xs) (sym d) h };
    }

-- the inside of a rune literal
pub rune_inside : (text : List ℕ) → IsRuneText text → IsRuneInside (inside_of text)
rune_inside text r =
    let w = rune_lit_within r.bytes r.from r.to r.lit in
    let i = (inside_range r.bytes r.from r.to text r.is w.0 w.1).1 in
    let ends = r.lit.ends in
    let n : r.lit.close ≡ r.to - 1 = omega arith in
    subst (λ (xs : List ℕ). IsRuneInside xs) (sym i) (subst (λ (k : ℕ). IsRuneInside (slice_range r.bytes (r.from + 1) k)) n (range_inside r.bytes (r.from + 1) r.lit.close r.lit.inside))
