-- Tokens, and the syntax of each construct (Go specification).
-- Decides what is wrong with a text that is no file, at its earliest token: no token starts there, no file begins
-- with the tokens up to it, or its height passes the greatest. Which tree a file has: `Files`.
use Rattle.std.specs.Prelude.{ℕ, ◌≡◌, ◌<◌, List, [], ◌∷◌, ◌++◌, Option, None}
use Rattle.go_tree.specs.declared.token.Token.{Token}
use Rattle.go_tree.specs.declared.token.TokenKind.{TokenKind}
use Rattle.go_tree.specs.declared.production.Production.TheVariants.{File}
use Rattle.go_tree.specs.Lexical.Faults.{IsLex}
use Rattle.go_tree.specs.Height.{AllFit, height_of}
use Rattle.go_tree.specs.Lexical.Scan.{IsNext, Stand}
use Rattle.go_tree.specs.Grammar.Trees.Sentence.{Begins}
use Rattle.go_text.specs.declared.fault.ParseFault.{ParseFault}
use Rattle.go_text.specs.declared.fault.ParseFault.TheVariants.{Lexical, Syntax, High, NoMemory}
use Rattle.go_text.specs.Files.{most_height}

-- a place between tokens: its offset, and the kind of the token before it
pub record Spot : Type 0 where
  pub at : ℕ
  pub last : Option TokenKind

-- the text begins with these tokens, up to a place; a file begins with them, and none has a height past the greatest
pub record Reaches (bytes : List ℕ) (tokens : List Token) (to : Spot) : Type 0 where
  pub stand : Stand bytes 0 None tokens to.at to.last
  pub begins : Begins bytes File tokens
  pub fit : AllFit most_height tokens

-- the next token, and no file begins with the tokens up to it
pub record IsSyntaxAt (bytes : List ℕ) (tokens : List Token) (to : Spot) (k : ℕ) : Type 0 where
  pub token : Token
  pub next : IsNext bytes to.at to.last token
  pub place : token.start ≡ k
  pub never : Begins bytes File (tokens ++ token ∷ []) → ⊥

-- the next token, and a file begins with the tokens up to it, but its height passes the greatest
pub record IsHighAt (bytes : List ℕ) (tokens : List Token) (to : Spot) (k : ℕ) : Type 0 where
  pub token : Token
  pub next : IsNext bytes to.at to.last token
  pub place : token.start ≡ k
  pub begins : Begins bytes File (tokens ++ token ∷ [])
  pub past : most_height < height_of (tokens ++ token ∷ [])

-- what is wrong behind these tokens; want of memory says nothing of the text
abbrev pub IsWrong : List ℕ → List Token → Spot → ParseFault → Type 0
IsWrong bytes tokens to (Lexical e) = IsLex bytes to.at to.last e
IsWrong bytes tokens to (Syntax k) = IsSyntaxAt bytes tokens to k
IsWrong bytes tokens to (High k) = IsHighAt bytes tokens to k
IsWrong bytes tokens to NoMemory = Unit {0}

-- the text is at fault so
pub record IsFaultOf (bytes : List ℕ) (fault : ParseFault) : Type 0 where
  pub tokens : List Token
  pub to : Spot
  pub reaches : Reaches bytes tokens to
  pub wrong : IsWrong bytes tokens to fault
