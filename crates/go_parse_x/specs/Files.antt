-- What is read of a whole file.
use Rattle.std.specs.Prelude.{ℕ, ◌≡◌, List, [], ◌∷◌, ◌++◌, None, Some, Result, Ok, Err}
use Rattle.go_tree.specs.declared.node.Node.{Node}
use Rattle.go_tree.specs.declared.token.Token.{Token}
use Rattle.go_tree.specs.declared.token.TokenKind.TheVariants.{End}
use Rattle.go_tree.specs.declared.production.Production.{Production}
use Rattle.go_tree.specs.declared.production.Production.TheVariants.{File}
use Rattle.go_tree.specs.Lexical.Scan.{IsNext, Stand}
use Rattle.go_tree.specs.Tree.{Tree, tree_of}
use Rattle.go_tree.specs.Grammar.RightSide.{RightSide}
use Rattle.go_tree.specs.Grammar.Trees.Reading.{State, OpenNode, tree_read}
use Rattle.go_tree.specs.Grammar.Trees.Sentence.{ReadsGo, Derives, Begins}
use Rattle.go_text.specs.declared.fault.ParseFault.{ParseFault}
use Rattle.go_text.specs.declared.fault.ParseFault.TheVariants.{Lexical, Syntax, High, NoMemory}
use Rattle.go_text.specs.Faults.{Spot}
use Rattle.go_parse_x.specs.Answers.{EndsAt, IsHigh}
use Rattle.go_parse_x.specs.Tables.Opened.{tree_without, numbers_in, Rises}
use Rattle.go_tree.specs.Height.{AllFit}
use Rattle.go_parse_x.specs.Machine.Turns.{at}
use Rattle.go_tree.specs.Lexical.Faults.{IsLex}

-- these are the tokens from one place to another; an n begins with them, and none has a height past what is free
pub record Reached (bytes : List ℕ) (n : Production) (free : ℕ) (from to : Spot) (tokens : List Token) : Type 0 where
  pub stand : Stand bytes from.at from.last tokens to.at to.last
  pub begins : Begins bytes n tokens
  pub fit : AllFit free tokens

-- and behind them the text is at fault
abbrev pub Faults : List ℕ → Production → ℕ → List Token → Spot → ParseFault → Type 0
Faults bytes n free tokens to (Lexical e) = IsLex bytes to.at to.last e
Faults bytes n free tokens to (Syntax k) = (token : Token) × EndsAt bytes n tokens to token × (token.start ≡ k)
Faults bytes n free tokens to (High k) = IsHigh bytes n free tokens to k
Faults bytes n free tokens to NoMemory = Unit {0}

pub record IsFault (bytes : List ℕ) (n : Production) (free : ℕ) (from to : Spot) (fault : ParseFault) : Type 0 where
  pub tokens : List Token
  pub reached : Reached bytes n free from to tokens
  pub faults : Faults bytes n free tokens to fault

-- these tokens and the end of the file behind them are an n with this tree; each of its nodes has a number of its own
pub record IsText (bytes : List ℕ) (n : Production) (free : ℕ) (from to : Spot) (low number : ℕ) (node : Node) : Type 0 where
  pub tokens : List Token
  pub stand : Stand bytes from.at from.last tokens to.at to.last
  pub last : Token
  pub next : IsNext bytes to.at to.last last
  pub end : last.kind ≡ End
  pub tree : Derives bytes n (tokens ++ last ∷ []) (tree_without node)
  pub fit : AllFit free (tokens ++ last ∷ [])
  pub rises : Rises low (numbers_in (tree_of node)) number

abbrev pub IsTextAnswer : List ℕ → Production → ℕ → Spot → Spot → ℕ → ℕ → Result Node ParseFault → Type 0
IsTextAnswer bytes n free from to low number (Ok node) = IsText bytes n free from to low number node
IsTextAnswer bytes n free from to low number (Err fault) = IsFault bytes n free from to fault

-- what the end of the file makes of it, behind these tokens
abbrev pub EndsText : List ℕ → ℕ → List Token → Token → Spot → ℕ → ℕ → Result Node ParseFault → Type 0
EndsText bytes free tokens last to low number (Ok node) = Derives bytes File (tokens ++ last ∷ []) (tree_without node) × AllFit free (tokens ++ last ∷ []) × Rises low (numbers_in (tree_of node)) number
EndsText bytes free tokens last to low number (Err fault) = Faults bytes File free tokens to fault

-- what is still to be read where no token is left does not end with a node
abbrev pub IsUnfinished : List ℕ → ℕ → List (RightSide Production) → List OpenNode → Type 0
IsUnfinished bytes last gs fs = (e : State) → e.rest ≡ [] → ReadsGo bytes gs (at last [] fs) e → tree_read e.open_nodes ≡ None

-- it ends with that tree
abbrev pub IsFinishedBy : List ℕ → ℕ → List (RightSide Production) → List OpenNode → Tree → Type 0
IsFinishedBy bytes last gs fs tree = (es : List OpenNode) × ReadsGo bytes gs (at last [] fs) (at last [] es) × (tree_read es ≡ Some tree)
