-- Which token can come next, and where one token decides.
-- The tables say of each production with which tokens it can begin, whether it can be empty, and which
-- tokens can follow it. Not needed to read the grammar: that one token decides is proved.
use Rattle.std.specs.Prelude.{◌≡◌, Bool, true, false, not, List, [], ◌∷◌, ◌||◌, ◌&&◌, cond}
use Rattle.go_tree.specs.declared.token.Token.{Token}
use Rattle.go_tree.specs.declared.token.TokenKind.{TokenKind}
use Rattle.go_tree.specs.Grammar.RightSide.{RightSide, Do, Call, Nothing, Seq, Or, Many, When, Act, Pass, Ahead, OneOf, Both}
use Rattle.go_tree.specs.Grammar.Trees.Reading.{looks}
use Rattle.go_tree.specs.Grammar.Tables.TokenKinds.{same_kind, is_in}

pub record Tables (N : Type 0) : Type 0 where
  pub first : N → TokenKind → Bool
  pub empty : N → Bool
  pub follow : N → TokenKind → Bool

abbrev pub act_is_empty : Act → Bool
act_is_empty (Pass k) = false
act_is_empty _ = true

abbrev pub act_begins : Act → TokenKind → Bool
act_begins (Pass k) t = same_kind k t
act_begins _ t = false

-- whether the tokens that come next can be so, and can be not so, where the next one is of that kind
abbrev pub may_look : Ahead → TokenKind → Bool
may_look (OneOf kinds) k = is_in kinds k
may_look (Both i j) k = same_kind i k

abbrev pub may_miss : Ahead → TokenKind → Bool
may_miss (OneOf kinds) k = not (is_in kinds k)
may_miss (Both i j) k = true

abbrev pub is_empty : {N : Type 0} → Tables N → RightSide N → Bool
is_empty T (Do a) = act_is_empty a
is_empty T (Call n) = T.empty n
is_empty T Nothing = true
is_empty T (Seq g h) = is_empty T g && is_empty T h
is_empty T (Or g h) = is_empty T g || is_empty T h
is_empty T (Many g) = true
is_empty T (When a g h) = is_empty T g || is_empty T h

abbrev pub begins : {N : Type 0} → Tables N → RightSide N → TokenKind → Bool
begins T (Do a) k = act_begins a k
begins T (Call n) k = T.first n k
begins T Nothing k = false
begins T (Seq g h) k = begins T g k || (is_empty T g && begins T h k)
begins T (Or g h) k = begins T g k || begins T h k
begins T (Many g) k = begins T g k
begins T (When a g h) k = (may_look a k && begins T g k) || (may_miss a k && begins T h k)

-- whether a token can stand next where g comes, and then what `after` allows
abbrev pub next_of : {N : Type 0} → Tables N → RightSide N → (TokenKind → Bool) → TokenKind → Bool
next_of T g after k = begins T g k || (is_empty T g && after k)

-- whether a token can stand next where all these come
abbrev pub starts : {N : Type 0} → Tables N → List (RightSide N) → TokenKind → Bool
starts T [] k = false
starts T (g ∷ gs) k = begins T g k || (is_empty T g && starts T gs k)

-- one token decides each choice in g, or a `When` does, where `after` has the tokens that can come
-- after it
abbrev pub Decided : {N : Type 0} → Tables N → RightSide N → (TokenKind → Bool) → Type 0
Decided T (Do a) after = Unit {0}
Decided T (Call n) after = (k : TokenKind) → after k ≡ true → T.follow n k ≡ true
Decided T Nothing after = Unit {0}
Decided T (Seq g h) after = Decided T g (next_of T h after) × Decided T h after
Decided T (Or g h) after = Decided T g after × Decided T h after × ((k : TokenKind) → next_of T g after k ≡ true → next_of T h after k ≡ true → ⊥) × (is_empty T g ≡ true → is_empty T h ≡ true → ⊥)
Decided T (Many g) after = Decided T g (λ k. begins T g k || after k) × ((k : TokenKind) → begins T g k ≡ true → after k ≡ true → ⊥) × (is_empty T g ≡ false)
Decided T (When a g h) after = Decided T g after × Decided T h after

abbrev pub AllDecided : {N : Type 0} → Tables N → List (RightSide N) → Type 0
AllDecided T [] = Unit {0}
AllDecided T (g ∷ gs) = Decided T g (starts T gs) × AllDecided T gs

-- the tables are right for the productions
pub record AreRight (N : Type 0) (production : N → RightSide N) (T : Tables N) : Type 0 where
  pub first : (n : N) (k : TokenKind) → begins T (production n) k ≡ true → T.first n k ≡ true
  pub empty : (n : N) → is_empty T (production n) ≡ true → T.empty n ≡ true
  pub decided : (n : N) → Decided T (production n) (T.follow n)

-- what the tokens that come next, t and then ts, make of the first right side
abbrev pub expand : {N : Type 0} → (N → RightSide N) → Tables N → Token → List Token → RightSide N → List (RightSide N) → List (RightSide N)
expand P T t ts (Do a) gs = Do a ∷ gs
expand P T t ts (Call n) gs = P n ∷ gs
expand P T t ts Nothing gs = gs
expand P T t ts (Seq g h) gs = g ∷ h ∷ gs
expand P T t ts (Or g h) gs = cond (next_of T g (starts T gs) t.kind) (g ∷ gs) (h ∷ gs)
expand P T t ts (Many g) gs = cond (begins T g t.kind) (g ∷ Many g ∷ gs) gs
expand P T t ts (When a g h) gs = cond (looks a (t ∷ ts)) (g ∷ gs) (h ∷ gs)
