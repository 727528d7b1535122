-- Fronts of texts: what is still to be read behind some tokens.
use Rattle.std.specs.Prelude.{ℕ, ◌≡◌, true, false, List, [], ◌∷◌, Some}
use Rattle.go_tree.specs.declared.token.Token.{Token}
use Rattle.go_tree.specs.declared.token.TokenKind.{TokenKind}
use Rattle.go_tree.specs.declared.production.Production.{Production}
use Rattle.go_tree.specs.Grammar.RightSide.{RightSide, Do, Call, Nothing, Seq, Or, Many, When, Act, Pass, Open, Ahead, OneOf, Both}
use Rattle.go_tree.specs.Grammar.Tables.TokenKinds.{same_kind}
use Rattle.go_tree.specs.Grammar.Trees.Reading.{State, acted, looks, before}
use Rattle.go_tree.specs.Grammar.Trees.Sentence.{production}

-- these tokens alone say whether the tokens that come next are so
abbrev pub Settles : Ahead → List Token → Type 0
Settles a [] = ⊥
Settles (OneOf kinds) (t ∷ ts) = Unit {0}
Settles (Both i j) (t ∷ []) = same_kind i t.kind ≡ false
Settles (Both i j) (t ∷ (u ∷ us)) = Unit {0}

-- a node begins at a token; the other acts don't look ahead
abbrev pub CanAct : Act → List Token → Type 0
CanAct Open [] = ⊥
CanAct _ ts = Unit {0}

-- a reading goes from these right sides to those, and what comes behind the tokens plays no part
pub data Leads (N : Type 0) (production : N → RightSide N) (bytes : List ℕ) : List (RightSide N) → State → List (RightSide N) → State → Type 0 where
  here : {gs : List (RightSide N)} {s : State} → Leads N production bytes gs s gs s
  acts : {a : Act} {gs hs : List (RightSide N)} {s m e : State} → CanAct a s.rest → acted bytes a s ≡ Some m → Leads N production bytes gs m hs e → Leads N production bytes (Do a ∷ gs) s hs e
  enters : {n : N} {gs hs : List (RightSide N)} {s e : State} → Leads N production bytes (production n ∷ gs) s hs e → Leads N production bytes (Call n ∷ gs) s hs e
  skips : {gs hs : List (RightSide N)} {s e : State} → Leads N production bytes gs s hs e → Leads N production bytes (Nothing ∷ gs) s hs e
  unfolds : {g h : RightSide N} {gs hs : List (RightSide N)} {s e : State} → Leads N production bytes (g ∷ h ∷ gs) s hs e → Leads N production bytes (Seq g h ∷ gs) s hs e
  takes_left : {g h : RightSide N} {gs hs : List (RightSide N)} {s e : State} → Leads N production bytes (g ∷ gs) s hs e → Leads N production bytes (Or g h ∷ gs) s hs e
  takes_right : {g h : RightSide N} {gs hs : List (RightSide N)} {s e : State} → Leads N production bytes (h ∷ gs) s hs e → Leads N production bytes (Or g h ∷ gs) s hs e
  stops : {g : RightSide N} {gs hs : List (RightSide N)} {s e : State} → Leads N production bytes gs s hs e → Leads N production bytes (Many g ∷ gs) s hs e
  repeats : {g : RightSide N} {gs hs : List (RightSide N)} {s e : State} → Leads N production bytes (g ∷ Many g ∷ gs) s hs e → Leads N production bytes (Many g ∷ gs) s hs e
  looks_so : {a : Ahead} {g h : RightSide N} {gs hs : List (RightSide N)} {s e : State} → Settles a s.rest → looks a s.rest ≡ true → Leads N production bytes (g ∷ gs) s hs e → Leads N production bytes (When a g h ∷ gs) s hs e
  looks_not_so : {a : Ahead} {g h : RightSide N} {gs hs : List (RightSide N)} {s e : State} → Settles a s.rest → looks a s.rest ≡ false → Leads N production bytes (h ∷ gs) s hs e → Leads N production bytes (When a g h ∷ gs) s hs e

-- a reading of n passes the tokens, and then hs is still open
pub record Passes (bytes : List ℕ) (n : Production) (front : List Token) (hs : List (RightSide Production)) : Type 0 where
  pub kind : TokenKind
  pub token : Token
  pub at : State
  pub leads : Leads Production production bytes (Call n ∷ []) (before front) (Do (Pass kind) ∷ hs) at
  pub last : at.rest ≡ token ∷ []
  pub same : same_kind kind token.kind ≡ true
