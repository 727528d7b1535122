-- A set of kinds has the kinds that its list has.
use Rattle.std.proofs.Common.{◌≡◌, ◌≢◌, ℕ, zero, suc, ◌<◌, ◌^◌, ◌==◌, ◌||◌, true, List, [], ◌∷◌, refl, sym, ap, subst, ◌∙◌, bit_or, max, arith, ⊎_elim}
use Rattle.std.specs.Int.{bit_at}
use Rattle.std.proofs.Math.Nat.{zero-max}
use Rattle.std.proofs.lemmas.Bool.Decides.{eqb_tells}
use Rattle.std.proofs.lemmas.Nat.Bits.{bit_at_or, bit_at-pow_same, bit_at-pow_other, bit_at-zero, bit_at-lt}
use Rattle.go_tree.specs.declared.token.TokenKind.{TokenKind}
use Rattle.go_tree.specs.Grammar.Tables.TokenKinds.{code, is_in}
use Rattle.go_parse_x.specs.Tables.KindSets.{set_of, has_kind}

with_one : (b : ℕ) → b < 2 → (max 1 b == 1) ≡ true
with_one zero h = refl
with_one (suc zero) h = refl
with_one (suc (suc b)) h = absurd (omega arith)

with_none : (b : ℕ) → (max 0 b == 1) ≡ (b == 1)
with_none b = rw (zero-max b) refl

same_bit : (j k set : ℕ) → j ≡ k → (max (bit_at (2 ^ j) k) (bit_at set k) == 1) ≡ true
same_bit j k set e = subst (λ n. (max (bit_at (2 ^ n) k) (bit_at set k) == 1) ≡ true) (sym e) (rw (bit_at-pow_same k) (with_one (bit_at set k) (bit_at-lt set k)))

other_bit : (j k set : ℕ) → j ≢ k → (max (bit_at (2 ^ j) k) (bit_at set k) == 1) ≡ (bit_at set k == 1)
other_bit j k set e = rw (bit_at-pow_other j k (λ d. e (sym d))) (with_none (bit_at set k))

-- the bit of one more kind is set, and the other bits stay
one_more : (j k set : ℕ) → (bit_at (bit_or (2 ^ j) set) k == 1) ≡ ((j == k) || (bit_at set k == 1))
one_more j k set =
    rw (bit_at_or (2 ^ j) set k) (⊎_elim (λ h. rw h.0 (same_bit j k set h.1)) (λ h. rw h.0 (other_bit j k set h.1)) (eqb_tells j k))

pub set_has : (ks : List TokenKind) (k : TokenKind) → has_kind (set_of ks) k ≡ is_in ks k
set_has [] k = rw (bit_at-zero (code k)) refl
set_has (j ∷ js) k = one_more (code j) (code k) (set_of js) ∙ ap (λ b. (code j == code k) || b) (set_has js k)
