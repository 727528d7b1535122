-- The bytes of a character behind its first.
use Rattle.std.proofs.Common.{◌≡◌, ◌≢◌, ℕ, ◌+◌, ◌<◌, ◌≤◌, true, List, length, drop, slice_index, get_or, ◌⊎◌, ⊎_elim, arith, get_or-drop, sym, ◌∙◌, ap}
use Rattle.std.proofs.lemmas.Bool.Decides.{nat_tests}
use Rattle.bstr.specs.Utf8.{continues}
use Rattle.bstr.proofs.lemmas.PieceLemmas.{tail-continues}
use Rattle.go_tree.specs.Lexical.Characters.{decoded_at}

continues_high : (b : ℕ) → continues b ≡ true → 128 ≤ b
continues_high b c = grind (arith, nat_tests)

-- none of them is an ASCII byte
pub behind_first : (bytes : List ℕ) (b at k : ℕ) → b < 128 → at < k → k < at + (decoded_at bytes at).size → (decoded_at bytes at).size ≤ 4 → slice_index bytes k ≢ b
behind_first bytes b at k ascii lt below small e =
    let tails = tail-continues (length (drop at bytes)) (slice_index (drop at bytes) 0) (slice_index (drop at bytes) 1) (slice_index (drop at bytes) 2) (slice_index (drop at bytes) 3) in
    ⊎_elim
    (λ (one : k ≡ at + 1). low _ _ (get_or-drop at bytes 1 0) one (tails.0 (omega (arith, lt, below, one))))
    (λ more. ⊎_elim
    (λ (two : k ≡ at + 2). low _ _ (get_or-drop at bytes 2 0) two (tails.1 (omega (arith, lt, below, two))))
    (λ (three : k ≡ at + 3). low _ _ (get_or-drop at bytes 3 0) three (tails.2 (omega (arith, lt, below, three))))
    more)
    (places at k lt (omega (arith, below, small)))
  where
    places : (at k : ℕ) → at < k → k < at + 4 → (k ≡ at + 1) ⊎ ((k ≡ at + 2) ⊎ (k ≡ at + 3))
    places at k lt below = grind arith

    low : (byte i : ℕ) → byte ≡ get_or bytes i 0 → k ≡ i → continues byte ≡ true → ⊥
    low byte i same here c =
        let is : byte ≡ b = same ∙ sym (ap (λ j. get_or bytes j 0) here) ∙ e in
        let high : 128 ≤ byte = continues_high byte c in
        omega (arith, is, high, ascii)
