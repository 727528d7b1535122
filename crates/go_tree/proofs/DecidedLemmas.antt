-- What the tests say.
use Rattle.std.proofs.Common.{subst, ◌≡◌, ℕ, zero, suc, Bool, true, false, List, [], ◌∷◌, refl, Option, None, Some, ◌||◌}
use Rattle.std.proofs.lemmas.Bool.{and_parts}
use Rattle.go_tree.specs.declared.token.TokenKind.{TokenKind}
use Rattle.go_tree.specs.declared.token.TokenKind.TheVariants.{Ident}
use Rattle.go_tree.specs.Grammar.RightSide.{RightSide, Do, Call, Nothing, Seq, Or, Many, When}
use Rattle.go_tree.specs.Grammar.Tables.TokenKinds.{all_kinds, code}
use Rattle.go_tree.specs.Grammar.Tables.Prediction.{Tables, is_empty, begins, next_of, Decided, AreRight}
use Rattle.go_tree.proofs.DecidedTests.{implied, not_both, each_of, each_kind, is_false, decided, right_at}
use Rattle.go_tree.proofs.TruthLemmas.{falsely, implies}

nth : ℕ → List TokenKind → Option TokenKind
nth n [] = None
nth zero (k ∷ ks) = Some k
nth (suc n) (k ∷ ks) = nth n ks

nth_code : (k : TokenKind) → nth (code k) all_kinds ≡ Some k
unfolding nth
nth_code Ident = refl
nth_code _ = refl

each_nth : (p : TokenKind → Bool) (ks : List TokenKind) (n : ℕ) (k : TokenKind) → each_of p ks ≡ true → nth n ks ≡ Some k → p k ≡ true
unfolding nth
each_nth p [] zero k h e = cc
each_nth p [] (suc n) k h e = cc
each_nth p (x ∷ xs) zero k h e = let y : x ≡ k = cc in let z = and_parts (p x) (each_of p xs) h in subst (λ w. p w ≡ true) y z.0
each_nth p (x ∷ xs) (suc n) k h e = each_nth p xs n k (and_parts (p x) (each_of p xs) h).1 e

pub every_kind : (p : TokenKind → Bool) → each_kind p ≡ true → (k : TokenKind) → p k ≡ true
every_kind p h k = each_nth p all_kinds (code k) k h (nth_code k)

excludes : (a b : Bool) → not_both a b ≡ true → a ≡ true → b ≡ true → ⊥
excludes true true h a b = cc
excludes true false h a b = cc
excludes false b h a e = cc

pub decided_so : (N : Type 0) (T : Tables N) (g : RightSide N) (after : TokenKind → Bool) → decided T g after ≡ true → Decided T g after
decided_so N T (Do a) after h = tt
decided_so N T (Call n) after h = λ k. implies (after k) (T.follow n k) (every_kind (λ k. implied (after k) (T.follow n k)) h k)
decided_so N T Nothing after h = tt
decided_so N T (Seq g f) after h = let z = and_parts (decided T g (next_of T f after)) (decided T f after) h in (decided_so N T g (next_of T f after) z.0, decided_so N T f after z.1)
decided_so N T (Or g f) after h =
    let y = and_parts (decided T g after) _ h in
    let z = and_parts (decided T f after) _ y.1 in
    let w = and_parts (each_kind (λ k. not_both (next_of T g after k) (next_of T f after k))) (not_both (is_empty T g) (is_empty T f)) z.1 in (
      decided_so N T g after y.0,
      decided_so N T f after z.0,
      λ k. excludes (next_of T g after k) (next_of T f after k) (every_kind (λ k. not_both (next_of T g after k) (next_of T f after k)) w.0 k),
      excludes (is_empty T g) (is_empty T f) w.1,
    )
decided_so N T (When a g f) after h = let z = and_parts (decided T g after) (decided T f after) h in (decided_so N T g after z.0, decided_so N T f after z.1)
decided_so N T (Many g) after h =
    let y = and_parts (decided T g (λ k. begins T g k || after k)) _ h in
    let z = and_parts (each_kind (λ k. not_both (begins T g k) (after k))) (is_false (is_empty T g)) y.1 in
    (decided_so N T g (λ k. begins T g k || after k) y.0, λ k. excludes (begins T g k) (after k) (every_kind (λ k. not_both (begins T g k) (after k)) z.0 k), falsely (is_empty T g) z.1)

pub are_right : (N : Type 0) (P : N → RightSide N) (T : Tables N) → ((n : N) → right_at P T n ≡ true) → AreRight N P T
are_right N P T h = record {
  first = λ n k. let y = and_parts (each_kind (λ k. implied (begins T (P n) k) (T.first n k))) _ (h n) in implies (begins T (P n) k) (T.first n k) (every_kind (λ k. implied (begins T (P n) k) (T.first n k)) y.0 k);
  empty = λ n. let y = and_parts (each_kind (λ k. implied (begins T (P n) k) (T.first n k))) _ (h n) in implies (is_empty T (P n)) (T.empty n) (and_parts (implied (is_empty T (P n)) (T.empty n)) (decided T (P n) (T.follow n)) y.1).0;
  decided = λ n. let y = and_parts (each_kind (λ k. implied (begins T (P n) k) (T.first n k))) _ (h n) in decided_so N T (P n) (T.follow n) (and_parts (implied (is_empty T (P n)) (T.empty n)) (decided T (P n) (T.follow n)) y.1).1;
}
