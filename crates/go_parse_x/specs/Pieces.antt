-- Pieces: what is read as one, and what is known while it is read.
use Rattle.std.specs.Prelude.{ℕ, ◌≡◌, true, false, List, [], ◌∷◌, ◌++◌, Option, None, Some, if◌then◌else◌, Bool}
use Rattle.go_tree.specs.declared.token.Token.{Token}
use Rattle.go_tree.specs.declared.token.TokenKind.{TokenKind}
use Rattle.go_tree.specs.declared.token.TokenKind.TheVariants.{LeftBrace}
use Rattle.go_tree.specs.declared.production.Production.{Production}
use Rattle.go_tree.specs.declared.production.Production.TheVariants as p
use Rattle.go_tree.specs.Height.{AllFit}
use Rattle.go_tree.specs.Lexical.Scan.{IsNext}
use Rattle.go_tree.specs.Grammar.RightSide.{RightSide, Call}
use Rattle.go_tree.specs.Grammar.Trees.Reading.{State, OpenNode, before}
use Rattle.go_tree.specs.Grammar.Tables.Brackets.{through_all, standing}
use Rattle.go_tree.specs.Grammar.Tables.Completion.{Firm}
use Rattle.go_tree.specs.Grammar.Tables.Rank.{top_rank}
use Rattle.go_tree.specs.Grammar.Trees.Sentence.{production, texts, ReadsGo, Begins}
use Rattle.go_parse_x.specs.declared.heights.Heights.{Heights}
use Rattle.go_parse_x.specs.Targets.{hands, piece}
use Rattle.go_parse_x.specs.declared.pending.Pending.{Pending}
use Rattle.go_parse_x.specs.Machine.Braces.{all_braced}
use Rattle.go_parse_x.specs.Tables.Lines.{sides}
use Rattle.go_parse_x.specs.Tables.Opened.{frames, numbers, Rises}
use Rattle.go_parse_x.specs.Machine.Heights.{Counts}
use Rattle.go_parse_x.specs.Machine.Turns.{at, is_asked, IsAsSeen, IsSound, IsSolid, IsFull}
use Rattle.go_parse_x.specs.Texts.{IsBehind}

-- behind the tokens, gs reads what makes an n of them, where what follows is as it was assumed
pub record HasRead (bytes : List ℕ) (n : Production) (front : List Token) (assumed : Option TokenKind) (gs : List (RightSide Production)) (last : ℕ) (fs : List OpenNode) : Type 0 where
  pub there : (ts : List Token) (e : State) → IsAsSeen assumed ts → e.rest ≡ [] → ReadsGo bytes (Call n ∷ []) (before (front ++ ts)) e → ReadsGo bytes gs (at last ts fs) e
  pub back : (ts : List Token) (e : State) → IsAsSeen assumed ts → e.rest ≡ [] → ReadsGo bytes gs (at last ts fs) e → ReadsGo bytes (Call n ∷ []) (before (front ++ ts)) e

-- a piece as the definitions see it
pub record View : Type 0 where
  -- what is read, and the greatest height that is free
  pub n : Production
  pub free : ℕ
  -- what is still to be read, and where the last token ended
  pub rest : List (RightSide Production)
  pub last : ℕ
  pub nodes : List OpenNode
  -- the heights of the tokens so far, and the numbers of the nodes so far
  pub heights : Heights
  pub numbers : List ℕ
  -- whether blocks are handed over
  pub hands_over : Bool

-- one of which something is read
abbrev pub open_view : Pending → View
open_view p = record { n = piece p.reading; free = p.free; rest = sides p.todo.items; last = p.last; nodes = frames p.opened.items; heights = p.heights; numbers = numbers p.opened.items; hands_over = hands p.reading }

-- one of which nothing is read
abbrev pub new_view : Pending → View
new_view p = record { n = piece p.reading; free = p.free; rest = production (piece p.reading) ∷ []; last = 0; nodes = record { start = 0; parts = [] } ∷ []; heights = p.heights; numbers = []; hands_over = hands p.reading }

abbrev pub view_of : Pending → View
view_of p = if p.begun then open_view p else new_view p

-- as before, for all that later calls ask of it
pub record IsKept (old new : Pending) : Type 0 where
  pub view : open_view new ≡ open_view old
  pub begun : new.begun ≡ old.begun
  pub awaits : new.awaits ≡ old.awaits

-- nothing is read
pub record IsNew (p : Pending) : Type 0 where
  pub begun : p.begun ≡ false
  pub awaits : p.awaits ≡ false
  pub counts : Counts p.heights []

-- what was assumed was asked for by the last token
abbrev pub IsAsked : Option TokenKind → Option TokenKind → Type 0
IsAsked None last = Unit {0}
IsAsked (Some assumed) last = (kind : TokenKind) × (last ≡ Some kind) × (is_asked kind ≡ true)

-- behind these tokens of an n a brace opens a block, here that of a function literal: what is still to be read begins with one
pub record OpensBlock (bytes : List ℕ) (n : Production) (front : List Token) (brace : Token) : Type 0 where
  pub is_brace : brace.kind ≡ LeftBrace
  pub rest : List (RightSide Production)
  pub last : ℕ
  pub nodes : List OpenNode
  pub there : (ts : List Token) (e : State) → e.rest ≡ [] → ReadsGo bytes (Call n ∷ []) (before (front ++ brace ∷ ts)) e → ReadsGo bytes (Call p.Block ∷ rest) (at last (brace ∷ ts) nodes) e
  pub back : (ts : List Token) (e : State) → e.rest ≡ [] → ReadsGo bytes (Call p.Block ∷ rest) (at last (brace ∷ ts) nodes) e → ReadsGo bytes (Call n ∷ []) (before (front ++ brace ∷ ts)) e
  pub firm : Firm texts top_rank rest

-- none of the tokens that are passed behind the front opens one
abbrev pub PassesNoBlock : List ℕ → Production → List Token → List Token → Type 0
PassesNoBlock bytes n front passed = (xs ys : List Token) (t : Token) → passed ≡ xs ++ t ∷ ys → OpensBlock bytes n (front ++ xs) t → ⊥

-- these tokens of the piece were read, up to the place `to` where one of the kind `kind` stands before; its nodes have
-- numbers from `low` up to `number`
pub record IsOpen (bytes : List ℕ) (v : View) (front : List Token) (low number to : ℕ) (kind : Option TokenKind) : Type 0 where
  pub assumed : Option TokenKind
  pub reads : HasRead bytes v.n front assumed v.rest v.last v.nodes
  pub solid : IsSolid v.rest
  pub begins : Begins bytes v.n front
  pub asked : IsAsked assumed kind
  pub next : (t : Token) → IsNext bytes to kind t → IsAsSeen assumed (t ∷ [])
  pub braced : v.hands_over ≡ true → all_braced v.rest ≡ true
  pub level : ℕ
  pub levels : through_all standing v.rest level ≡ Some 0
  pub fit : AllFit v.free front
  pub counts : Counts v.heights front
  pub full : IsFull v.nodes
  pub rises : Rises low v.numbers number
  pub behind : IsBehind front to kind

-- the same where the next token opens the block of a function literal, which is handed over
pub record IsAwaiting (bytes : List ℕ) (v : View) (front : List Token) (low number to : ℕ) (kind : Option TokenKind) : Type 0 where
  pub brace : Token
  pub next : IsNext bytes to kind brace
  pub is_brace : brace.kind ≡ LeftBrace
  pub rest : List (RightSide Production)
  pub block : v.rest ≡ Call p.Block ∷ rest
  pub there : (ts : List Token) (e : State) → e.rest ≡ [] → ReadsGo bytes (Call v.n ∷ []) (before (front ++ brace ∷ ts)) e → ReadsGo bytes v.rest (at v.last (brace ∷ ts) v.nodes) e
  pub back : (ts : List Token) (e : State) → e.rest ≡ [] → ReadsGo bytes v.rest (at v.last (brace ∷ ts) v.nodes) e → ReadsGo bytes (Call v.n ∷ []) (before (front ++ brace ∷ ts)) e
  pub sound : IsSound v.rest
  pub begins : Begins bytes v.n (front ++ brace ∷ [])
  pub braced : v.hands_over ≡ true → all_braced v.rest ≡ true
  pub level : ℕ
  pub levels : through_all standing v.rest level ≡ Some 0
  pub fit : AllFit v.free (front ++ brace ∷ [])
  pub counts : Counts v.heights front
  pub full : IsFull v.nodes
  pub rises : Rises low v.numbers number
  pub behind : IsBehind front to kind
