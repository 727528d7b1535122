-- Lemmas on keywords, operators and punctuation: short texts among the bytes, and what is spelled.
use Rattle.std.proofs.Common.{◌≡◌, ℕ, zero, suc, ◌+◌, ◌-◌, ◌<◌, ◌≤◌, true, List, [], ◌∷◌, length, take, drop, slice_index, slice_range, get_or, refl, arith, length-drop, get_or-drop, ◌∙◌, ⊎_elim, nat_lt}
use Rattle.std.specs.List.{list_all}
use Rattle.std.proofs.lemmas.Bool.{cases_lt}
use Rattle.std.proofs.lemmas.Bool.Decides.{nat_tests}
use Rattle.go_tree.specs.declared.token.TokenKind.{TokenKind}
use Rattle.go_tree.specs.declared.token.TokenKind.TheVariants.{Ident}
use Rattle.go_tree.specs.Lexical.Tokens.{spelling}

front_two : (ys : List ℕ) → 2 ≤ length ys → take 2 ys ≡ get_or ys 0 0 ∷ (get_or ys 1 0 ∷ [])
front_two [] le = absurd (omega arith)
front_two (x ∷ []) le = absurd (omega arith)
front_two (x ∷ (y ∷ ys)) le = refl

front_one : (ys : List ℕ) → 1 ≤ length ys → take 1 ys ≡ get_or ys 0 0 ∷ []
front_one [] le = absurd (omega arith)
front_one (x ∷ ys) le = refl

pub slice_two : (bytes : List ℕ) (from : ℕ) → from + 2 ≤ length bytes → slice_range bytes from (from + 2) ≡ slice_index bytes from ∷ (slice_index bytes (from + 1) ∷ [])
slice_two bytes from le =
    let len : from + 2 - from ≡ 2 = omega arith in
    let there : 2 ≤ length (drop from bytes) = omega (arith, length-drop from bytes) in
    let first : from + 0 ≡ from = omega arith in
    rw len (front_two (drop from bytes) there ∙ rw (get_or-drop from bytes 0 0, get_or-drop from bytes 1 0, first) refl)

-- no text has a 0 in it
pub no_zero : (kind : TokenKind) → list_all (nat_lt 0) (spelling kind) ≡ true
no_zero Ident = refl
no_zero _ = refl

pub two_within : (bytes : List ℕ) (from b : ℕ) (kind : TokenKind) → from < length bytes → spelling kind ≡ slice_index bytes from ∷ (slice_index bytes (from + 1) ∷ []) → from + 2 ≤ length bytes
two_within bytes from b kind lt e = ⊎_elim
    (λ (within : from + 1 < length bytes). omega (arith, within))
    (λ (past : length bytes ≤ from + 1). let z = past_end bytes (from + 1) past in
    let all : list_all (nat_lt 0) (slice_index bytes from ∷ (0 ∷ [])) ≡ true = rw (e, z) at (no_zero kind) in
    absurd (grind (arith, nat_tests, all)))
    (cases_lt (from + 1) (length bytes))
  where
    past_end : (xs : List ℕ) (i : ℕ) → length xs ≤ i → slice_index xs i ≡ 0
    past_end [] zero le = refl
    past_end [] (suc i) le = refl
    past_end (x ∷ xs) zero le = absurd (omega arith)
    past_end (x ∷ xs) (suc i) le = past_end xs i (omega (arith, le))
