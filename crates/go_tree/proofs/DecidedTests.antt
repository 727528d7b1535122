-- Tests that compute, for whether one token decides.
use Rattle.std.specs.Prelude.{Bool, true, false, List, [], ◌∷◌, ◌||◌, ◌&&◌}
use Rattle.go_tree.specs.declared.token.TokenKind.{TokenKind}
use Rattle.go_tree.specs.Grammar.RightSide.{RightSide, Do, Call, Nothing, Seq, Or, Many, When}
use Rattle.go_tree.specs.Grammar.Tables.TokenKinds.{all_kinds}
use Rattle.go_tree.specs.Grammar.Tables.Prediction.{Tables, is_empty, begins, next_of}

abbrev pub implied : Bool → Bool → Bool
implied true b = b
implied false b = true

abbrev pub not_both : Bool → Bool → Bool
not_both true true = false
not_both true false = true
not_both false b = true

abbrev pub each_of : (TokenKind → Bool) → List TokenKind → Bool
each_of p [] = true
each_of p (k ∷ ks) = p k && each_of p ks

abbrev pub each_kind : (TokenKind → Bool) → Bool
each_kind p = each_of p all_kinds

abbrev pub is_false : Bool → Bool
is_false true = false
is_false false = true

abbrev pub decided : {N : Type 0} → Tables N → RightSide N → (TokenKind → Bool) → Bool
decided T (Do a) after = true
decided T (Call n) after = each_kind (λ k. implied (after k) (T.follow n k))
decided T Nothing after = true
decided T (Seq g h) after = decided T g (next_of T h after) && decided T h after
decided T (Or g h) after = decided T g after && (decided T h after && (each_kind (λ k. not_both (next_of T g after k) (next_of T h after k)) && not_both (is_empty T g) (is_empty T h)))
decided T (When ks g h) after = decided T g after && decided T h after
decided T (Many g) after = decided T g (λ k. begins T g k || after k) && (each_kind (λ k. not_both (begins T g k) (after k)) && is_false (is_empty T g))

-- the tables are right at n
abbrev pub right_at : {N : Type 0} → (N → RightSide N) → Tables N → N → Bool
right_at P T n = each_kind (λ k. implied (begins T (P n) k) (T.first n k)) && (implied (is_empty T (P n)) (T.empty n) && decided T (P n) (T.follow n))
