-- The answers of `parse_expr`, by the tokens of the piece.
use Rattle.std.specs.Prelude.{ℕ, ◌≡◌, ◌<◌, ◌-◌, true, false, List, [], ◌∷◌, ◌++◌, Result, Ok, Err}
use Rattle.go_tree.specs.declared.node.Node.{Node}
use Rattle.go_tree.specs.declared.token.Token.{Token}
use Rattle.go_tree.specs.declared.production.Production.{Production}
use Rattle.go_tree.specs.declared.production.Production.TheVariants.{Block}
use Rattle.go_tree.specs.Height.{height_of, AllFit}
use Rattle.go_tree.specs.Lexical.Scan.{IsNext, Stand}
use Rattle.go_tree.specs.Tree.{tree_of}
use Rattle.go_tree.specs.Grammar.Trees.Sentence.{IsA, Derives, Begins}
use Rattle.go_text.specs.Faults.{Spot}
use Rattle.go_parse_x.specs.declared.cursor.Cursor.{Cursor}
use Rattle.go_text.specs.declared.fault.ParseFault.{ParseFault}
use Rattle.go_text.specs.declared.fault.ParseFault.TheVariants.{Lexical, Syntax, High, NoMemory}
use Rattle.go_parse_x.specs.declared.parsed.Parsed.{Parsed}
use Rattle.go_parse_x.specs.declared.parsed.Parsed.TheVariants as parsed
use Rattle.go_parse_x.specs.declared.pending.Pending.{Pending}
use Rattle.go_parse_x.specs.Tables.Opened.{tree_without, numbers_in, Rises}
use Rattle.go_parse_x.specs.Pieces.{OpensBlock, PassesNoBlock, IsNew, open_view, view_of, IsOpen, IsAwaiting}
use Rattle.go_parse_x.specs.Targets.{hands}
use Rattle.go_tree.specs.Lexical.Faults.{IsLex}

abbrev pub spot_of : Cursor → Spot
spot_of c = record { at = c.at; last = c.last }

-- the tokens of a piece, some before a place and the others, which are passed, from there to another: they begin an n, none
-- has a height past what is free, and none that is passed opens the block of a function literal
pub record Went (bytes : List ℕ) (n : Production) (free : ℕ) (front : List Token) (from to : Spot) (all : List Token) : Type 0 where
  pub passed : List Token
  pub are : all ≡ front ++ passed
  pub stand : Stand bytes from.at from.last passed to.at to.last
  pub begins : Begins bytes n all
  pub fit : AllFit free all
  pub no_block : PassesNoBlock bytes n front passed

-- no n begins with the tokens and the next one
pub record EndsAt (bytes : List ℕ) (n : Production) (all : List Token) (to : Spot) (token : Token) : Type 0 where
  pub next : IsNext bytes to.at to.last token
  pub never : Begins bytes n (all ++ token ∷ []) → ⊥

-- the tokens are a whole n with this tree, and the next token goes on with none
pub record IsWhole (bytes : List ℕ) (n : Production) (all : List Token) (to : Spot) (low number : ℕ) (node : Node) : Type 0 where
  pub tree : Derives bytes n all (tree_without node)
  pub token : Token
  pub ends : EndsAt bytes n all to token
  -- each node has a number of its own, from those that `fresh` gave
  pub rises : Rises low (numbers_in (tree_of node)) number

-- the tokens are no n, and none begins with them and the next one, which starts at k
pub record IsSyntax (bytes : List ℕ) (n : Production) (all : List Token) (to : Spot) (k : ℕ) : Type 0 where
  pub token : Token
  pub ends : EndsAt bytes n all to token
  pub no_piece : IsA bytes n all → ⊥
  pub place : token.start ≡ k

-- an n begins with the tokens and the next one, which starts at k and is the first whose height passes what is free
pub record IsHigh (bytes : List ℕ) (n : Production) (free : ℕ) (all : List Token) (to : Spot) (k : ℕ) : Type 0 where
  pub token : Token
  pub next : IsNext bytes to.at to.last token
  pub begins : Begins bytes n (all ++ token ∷ [])
  pub past : free < height_of (all ++ token ∷ [])
  pub place : token.start ≡ k

-- the next token opens the block of a function literal, an n begins with the tokens up to it, and none of these has a
-- height past what is free
pub record IsBlock (bytes : List ℕ) (n : Production) (free : ℕ) (all : List Token) (to : Spot) : Type 0 where
  pub brace : Token
  pub next : IsNext bytes to.at to.last brace
  pub opens : OpensBlock bytes n all brace
  pub begins : Begins bytes n (all ++ brace ∷ [])
  pub fit : AllFit free (all ++ brace ∷ [])

-- what the answer says of the tokens
abbrev pub Says : List ℕ → Production → ℕ → List Token → Spot → ℕ → ℕ → Pending → Result Parsed ParseFault → Type 0
Says bytes n free all to low number p (Ok (parsed.Whole node)) = IsWhole bytes n all to low number node × IsNew p
Says bytes n free all to low number p (Ok parsed.Block) = IsBlock bytes n free all to × (p.begun ≡ true) × (p.awaits ≡ true) × IsAwaiting bytes (open_view p) all low number to.at to.last
Says bytes n free all to low number p (Err (Lexical e)) = IsLex bytes to.at to.last e
Says bytes n free all to low number p (Err (Syntax k)) = IsSyntax bytes n all to k
Says bytes n free all to low number p (Err (High k)) = IsHigh bytes n free all to k
Says bytes n free all to low number p (Err NoMemory) = Unit {0}

-- the answer, where the tokens `front` of the piece were read before
pub record IsAnswer (bytes : List ℕ) (n : Production) (free : ℕ) (front : List Token) (from to : Spot) (low number : ℕ) (p : Pending) (result : Result Parsed ParseFault) : Type 0 where
  pub all : List Token
  pub went : Went bytes n free front from to all
  pub says : Says bytes n free all to low number p result

-- the call goes on with a piece on this cursor: nothing of it is read, or these tokens, which end where the cursor stands,
-- with nodes whose numbers rise from `low` on
pub record IsReady (c : Cursor) (p : Pending) (front : List Token) (low : ℕ) : Type 0 where
  pub awaits : p.awaits ≡ false
  pub piece : hands p.reading ≡ true
  pub is_open : IsOpen c.bytes.now (view_of p) front low c.number c.at c.last

-- the tokens since the answer Block are those of one block, and this is its tree; the block's heights, counted from 0, are
-- free, and its nodes have numbers that were given since
pub record IsBlockRead (c : Cursor) (p : Pending) (front : List Token) (low : ℕ) (block : Node) : Type 0 where
  pub begun : p.begun ≡ true
  pub piece : hands p.reading ≡ true
  pub number : ℕ
  pub spot : Spot
  pub awaits : IsAwaiting c.bytes.now (open_view p) front low number spot.at spot.last
  pub tokens : List Token
  pub stand : Stand c.bytes.now spot.at spot.last tokens c.at c.last
  pub tree : Derives c.bytes.now Block tokens (tree_without block)
  pub fits : AllFit (p.free - height_of front) tokens
  pub rises : Rises number (numbers_in (tree_of block)) c.number
