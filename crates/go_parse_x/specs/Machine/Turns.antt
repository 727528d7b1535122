-- What is still to be read, and what the next token makes of it.
-- Says when two lists of right sides read the same from that token on, whatever follows it.
use Rattle.std.specs.Prelude.{ℕ, ◌≡◌, ◌<◌, Bool, true, false, List, [], ◌∷◌, ◌&&◌, Option, None, Some}
use Rattle.go_tree.specs.declared.token.Token.{Token}
use Rattle.go_tree.specs.declared.token.TokenKind.{TokenKind}
use Rattle.go_tree.specs.declared.token.TokenKind.TheVariants.{Arrow, Dot, LeftBrace, Semicolon}
use Rattle.go_tree.specs.declared.production.Production.{Production}
use Rattle.go_tree.specs.declared.production.Production.TheVariants.{Block}
use Rattle.go_tree.specs.Grammar.RightSide.{RightSide, Do, Call, Nothing, Seq, Or, Many, When, OneOf, Both}
use Rattle.go_tree.specs.Grammar.Trees.Reading.{State, OpenNode}
use Rattle.go_tree.specs.Grammar.Tables.Prediction.{AllDecided, starts}
use Rattle.go_tree.specs.Grammar.Tables.Brackets.{through_all, standing}
use Rattle.go_tree.specs.Grammar.Tables.Completion.{spell, is_there, Firm, Held}
use Rattle.go_tree.specs.Grammar.Tables.TokenKinds.{same_kind}
use Rattle.go_tree.specs.Grammar.Tables.Rank.{top_rank}
use Rattle.go_tree.specs.Grammar.Trees.Sentence.{ReadsGo, tables, texts}
use Rattle.go_tree.proofs.StartLemmas.{all_begin}
use Rattle.go_parse_x.specs.declared.line.Asked as question
use Rattle.go_parse_x.specs.declared.line.Asked.TheVariants.{Qualifier, Receive}
use Rattle.go_parse_x.specs.declared.seen.Seen.{Seen}
use Rattle.go_parse_x.specs.declared.seen.Turn.{Turn}
use Rattle.go_parse_x.specs.declared.seen.Turn.TheVariants.{Passed, Turned, Asked, Stuck, Astray, Unseen, AtBlock}
use Rattle.go_parse_x.specs.Machine.Braces.{all_braced}
use Rattle.go_parse_x.specs.Machine.Weights.{cost}

-- a reading that stands before a token
abbrev pub at : ℕ → List Token → List OpenNode → State
at last tokens fs = record { last = last; rest = tokens; open_nodes = fs }

-- whether the token is ever asked for together with the one behind it
abbrev pub is_asked : TokenKind → Bool
is_asked Dot = true
is_asked Arrow = true
is_asked _ = false

abbrev pub BeginsWith : TokenKind → List Token → Type 0
BeginsWith kind [] = ⊥
BeginsWith kind (t ∷ ts) = t.kind ≡ kind

-- what follows the token is as it was seen, where it was
abbrev pub IsAsSeen : Option TokenKind → List Token → Type 0
IsAsSeen None ts = Unit {0}
IsAsSeen (Some kind) ts = BeginsWith kind ts

-- the token is the first of the two that are asked for
abbrev pub AsksFor : question.Asked → TokenKind → Type 0
AsksFor Qualifier kind = same_kind Dot kind ≡ true
AsksFor Receive kind = same_kind Arrow kind ≡ true
AsksFor asked kind = ⊥

-- where two tokens decide, a text of the first choice is known
abbrev pub pairs_spelled : RightSide Production → Bool
pairs_spelled (Do a) = true
pairs_spelled (Call n) = true
pairs_spelled Nothing = true
pairs_spelled (Seq g h) = pairs_spelled g && pairs_spelled h
pairs_spelled (Or g h) = pairs_spelled g && pairs_spelled h
pairs_spelled (Many g) = pairs_spelled g
pairs_spelled (When (OneOf kinds) g h) = pairs_spelled g && pairs_spelled h
pairs_spelled (When (Both i j) g h) = is_there (spell texts top_rank (When (Both i j) g h)) && (pairs_spelled g && pairs_spelled h)

abbrev pub all_spelled : List (RightSide Production) → Bool
all_spelled [] = true
all_spelled (g ∷ gs) = pairs_spelled g && all_spelled gs

-- some node is open
abbrev pub IsFull : List OpenNode → Type 0
IsFull [] = ⊥
IsFull (f ∷ fs) = Unit {0}

-- one token decides each choice, and all but perhaps a first test can be completed
pub record IsSound (gs : List (RightSide Production)) : Type 0 where
  pub decided : AllDecided tables gs
  pub held : Held texts top_rank gs
  pub spelled : all_spelled gs ≡ true
  pub begun : all_begin tables gs ≡ true

-- the same, and all can be completed
pub record IsSolid (gs : List (RightSide Production)) : Type 0 where
  pub decided : AllDecided tables gs
  pub firm : Firm texts top_rank gs
  pub spelled : all_spelled gs ≡ true
  pub begun : all_begin tables gs ≡ true

-- some text goes on with the token
pub record GoesOn (bytes : List ℕ) (seen : Seen) (gs : List (RightSide Production)) (fs : List OpenNode) : Type 0 where
  pub more : List Token
  pub end : State
  pub reads : ReadsGo bytes gs (at seen.last (seen.token ∷ more) fs) end
  pub all : end.rest ≡ []

-- In what follows `assumed` says what was assumed of the tokens behind the next one.

-- gs before the token reads what hs reads, before it
pub record IsSame (bytes : List ℕ) (seen : Seen) (assumed : Option TokenKind) (gs hs : List (RightSide Production)) (fs es : List OpenNode) : Type 0 where
  pub there : (ts : List Token) (e : State) → IsAsSeen assumed ts → e.rest ≡ [] → ReadsGo bytes gs (at seen.last (seen.token ∷ ts) fs) e → ReadsGo bytes hs (at seen.last (seen.token ∷ ts) es) e
  pub back : (ts : List Token) (e : State) → IsAsSeen assumed ts → e.rest ≡ [] → ReadsGo bytes hs (at seen.last (seen.token ∷ ts) es) e → ReadsGo bytes gs (at seen.last (seen.token ∷ ts) fs) e
  pub sound : IsSound gs → IsSound hs
  -- as many brackets are left open
  pub levels : (l m : ℕ) → through_all standing gs l ≡ Some m → through_all standing hs l ≡ Some m
  pub starts : assumed ≡ None → IsSound gs → starts tables gs seen.token.kind ≡ starts tables hs seen.token.kind
  pub full : IsFull fs → IsFull es
  pub braced : seen.hands_over ≡ true → all_braced gs ≡ true → all_braced hs ≡ true

-- gs before the token reads what hs reads behind it
pub record IsPassed (bytes : List ℕ) (seen : Seen) (assumed : Option TokenKind) (gs hs : List (RightSide Production)) (fs es : List OpenNode) : Type 0 where
  pub there : (ts : List Token) (e : State) → IsAsSeen assumed ts → e.rest ≡ [] → ReadsGo bytes gs (at seen.last (seen.token ∷ ts) fs) e → ReadsGo bytes hs (at seen.token.end ts es) e
  pub back : (ts : List Token) (e : State) → IsAsSeen assumed ts → e.rest ≡ [] → ReadsGo bytes hs (at seen.token.end ts es) e → ReadsGo bytes gs (at seen.last (seen.token ∷ ts) fs) e
  pub solid : IsSound gs → IsSolid hs
  pub levels : (l m : ℕ) → through_all standing gs l ≡ Some m → (b : ℕ) × (through_all standing hs b ≡ Some m)
  pub full : IsFull fs → IsFull es
  pub braced : seen.hands_over ≡ true → all_braced gs ≡ true → all_braced hs ≡ true
  -- the token opens no block
  pub no_block : seen.hands_over ≡ true → all_braced gs ≡ true → seen.token.kind ≡ LeftBrace → starts tables hs Semicolon ≡ false

-- nothing reads the token; where it could stand here, a bracket is open
pub record IsStuck (bytes : List ℕ) (seen : Seen) (assumed : Option TokenKind) (gs : List (RightSide Production)) (fs : List OpenNode) : Type 0 where
  pub inside : assumed ≡ None → IsSound gs → starts tables gs seen.token.kind ≡ true → through_all standing gs 0 ≡ Some 0 → ⊥
  pub never : (ts : List Token) (e : State) → IsAsSeen assumed ts → e.rest ≡ [] → ReadsGo bytes gs (at seen.last (seen.token ∷ ts) fs) e → ⊥

-- the token behind the next one would decide, and some text goes on with the next one
pub record IsAsked (bytes : List ℕ) (seen : Seen) (gs : List (RightSide Production)) (fs : List OpenNode) : Type 0 where
  pub asked : is_asked seen.token.kind ≡ true
  pub goes_on : GoesOn bytes seen gs fs

-- whether it was asked for: then it was seen
abbrev pub IsMet : List ℕ → Seen → Bool → List (RightSide Production) → List OpenNode → Type 0
IsMet bytes seen false gs fs = Unit {0}
IsMet bytes seen true gs fs = (kind : TokenKind) × (seen.ahead ≡ Some kind) × IsAsked bytes seen gs fs

-- nothing is assumed, or what was seen, since it was asked for
abbrev pub IsAssumed : List ℕ → Seen → Option TokenKind → List (RightSide Production) → List OpenNode → Type 0
IsAssumed bytes seen None gs fs = Unit {0}
IsAssumed bytes seen (Some kind) gs fs = (seen.ahead ≡ Some kind) × IsAsked bytes seen gs fs

-- the token opens a block that is handed over
pub record IsAtBlock (seen : Seen) (gs hs : List (RightSide Production)) (fs es : List OpenNode) : Type 0 where
  pub rest : List (RightSide Production)
  pub block : gs ≡ Call Block ∷ rest
  pub brace : seen.token.kind ≡ LeftBrace
  pub over : seen.hands_over ≡ true
  pub stays : hs ≡ gs
  pub nodes : es ≡ fs

-- what one step makes of it
abbrev pub IsTurn : List ℕ → Seen → Turn → List (RightSide Production) → List (RightSide Production) → List OpenNode → List OpenNode → Type 0
IsTurn bytes seen Passed gs hs fs es = IsPassed bytes seen None gs hs fs es
IsTurn bytes seen Turned gs hs fs es = IsSame bytes seen None gs hs fs es
IsTurn bytes seen Asked gs hs fs es = (kind : TokenKind) × (seen.ahead ≡ Some kind) × IsSame bytes seen (Some kind) gs hs fs es × IsAsked bytes seen gs fs
IsTurn bytes seen Stuck gs hs fs es = IsStuck bytes seen None gs fs
IsTurn bytes seen Astray gs hs fs es = ⊥
IsTurn bytes seen Unseen gs hs fs es = (seen.ahead ≡ None) × IsAsked bytes seen gs fs
IsTurn bytes seen AtBlock gs hs fs es = IsAtBlock seen gs hs fs es

-- what all steps make of it
abbrev pub IsSettled : List ℕ → Seen → Turn → List (RightSide Production) → List (RightSide Production) → List OpenNode → List OpenNode → Type 0
IsSettled bytes seen Passed gs hs fs es = (assumed : Option TokenKind) × IsPassed bytes seen assumed gs hs fs es × IsAssumed bytes seen assumed gs fs × GoesOn bytes seen gs fs
IsSettled bytes seen Turned gs hs fs es = ⊥
IsSettled bytes seen Asked gs hs fs es = ⊥
IsSettled bytes seen Stuck gs hs fs es = IsStuck bytes seen None gs fs
IsSettled bytes seen Astray gs hs fs es = (kind : TokenKind) × (seen.ahead ≡ Some kind) × IsStuck bytes seen (Some kind) gs fs × IsAsked bytes seen gs fs
IsSettled bytes seen Unseen gs hs fs es = (seen.ahead ≡ None) × IsAsked bytes seen gs fs
IsSettled bytes seen AtBlock gs hs fs es = IsSame bytes seen None gs hs fs es × IsAtBlock seen hs hs es es

-- a step that passes nothing leaves less to be read before the token
abbrev pub IsCheaper : Turn → List (RightSide Production) → List (RightSide Production) → Type 0
IsCheaper Turned gs hs = cost hs < cost gs
IsCheaper Asked gs hs = cost hs < cost gs
IsCheaper _ gs hs = Unit {0}

-- where no token is left, gs reads what hs reads
pub record IsSameAtEnd (bytes : List ℕ) (last : ℕ) (gs hs : List (RightSide Production)) (fs es : List OpenNode) : Type 0 where
  pub there : (e : State) → ReadsGo bytes gs (at last [] fs) e → ReadsGo bytes hs (at last [] es) e
  pub back : (e : State) → ReadsGo bytes hs (at last [] es) e → ReadsGo bytes gs (at last [] fs) e
  pub decided : AllDecided tables gs → AllDecided tables hs
