-- The grammar of Go files: which tokens derive which tree, which are a sentence, and which begin one.
-- The productions stand in `File`, `Declarations`, `Types`, `Expressions` and `Statements`.
use Rattle.std.specs.Prelude.{ℕ, ◌≡◌, Bool, true, false, List, [], ◌∷◌, ◌++◌, Some}
use Rattle.go_tree.specs.declared.token.Token.{Token}
use Rattle.go_tree.specs.declared.production.Production.{Production}
use Rattle.go_tree.specs.declared.production.Production.TheVariants.{AddTail, AfterArg, AfterClauseStmt, AfterExpr, AfterIndex, AfterName, AfterSelector, AndTail, CallOrDot, CallRest, ClauseBody, CompareTail, FieldAfterName, File, ForAfterExpr, ForClauses, More, MulTail, OrTail, ParamAfterName, SimpleTail, Suffix, Tails, TypeArgs, TypeSpecBracket}
use Rattle.go_tree.specs.Tree.{Tree}
use Rattle.go_tree.specs.Grammar.RightSide.{RightSide, Call}
use Rattle.go_tree.specs.Grammar.Tables.TokenKinds.{is_in}
use Rattle.go_tree.specs.Grammar.Trees.Reading.{Reads, State, before, tree_read}
use Rattle.go_tree.specs.Grammar.File.{file_line}
use Rattle.go_tree.specs.Grammar.Tables.Prediction.{Tables}
use Rattle.go_tree.specs.Grammar.Tables.First.{firsts}
use Rattle.go_tree.specs.Grammar.Tables.Follow.{follows}
use Rattle.go_tree.specs.Grammar.Tables.Completion.{Texts}
use Rattle.go_tree.specs.Grammar.Tables.Brief.{brief}
use Rattle.go_tree.specs.Grammar.Tables.Rank.{rank}

-- the right side of each production
abbrev pub production : Production → RightSide Production
production n = file_line n

-- what the productions read
abbrev pub ReadsGo : List ℕ → List (RightSide Production) → State → State → Type 0
ReadsGo bytes gs s e = Reads Production production bytes gs s e

-- the tokens of the text are an n
pub record IsA (bytes : List ℕ) (n : Production) (tokens : List Token) : Type 0 where
  pub end : State
  pub reads : ReadsGo bytes (Call n ∷ []) (before tokens) end
  pub all : end.rest ≡ []

-- and have this tree; its nodes have no numbers yet
pub record Derives (bytes : List ℕ) (n : Production) (tokens : List Token) (t : Tree) : Type 0 where
  pub whole : IsA bytes n tokens
  pub tree : tree_read whole.end.open_nodes ≡ Some t

-- the tokens of the text have a tree of a file
abbrev pub IsSentence : List ℕ → List Token → Type 0
IsSentence bytes tokens = (t : Tree) × Derives bytes File tokens t

-- some n begins with these tokens
abbrev pub Begins : List ℕ → Production → List Token → Type 0
Begins bytes n front = (more : List Token) × (t : Tree) × Derives bytes n (front ++ more) t

-- whether what a production reads is one node; the others read parts of a node, or what follows one
abbrev pub is_whole : Production → Bool
is_whole TypeSpecBracket = false
is_whole (More l) = false
is_whole TypeArgs = false
is_whole ParamAfterName = false
is_whole FieldAfterName = false
is_whole (OrTail w) = false
is_whole (AndTail w) = false
is_whole (CompareTail w) = false
is_whole (AddTail w) = false
is_whole (MulTail w) = false
is_whole AfterName = false
is_whole AfterSelector = false
is_whole AfterIndex = false
is_whole Suffix = false
is_whole CallRest = false
is_whole AfterArg = false
is_whole Tails = false
is_whole CallOrDot = false
is_whole (AfterExpr w) = false
is_whole (SimpleTail w) = false
is_whole (ClauseBody c) = false
is_whole (AfterClauseStmt c) = false
is_whole ForAfterExpr = false
is_whole ForClauses = false
is_whole _ = true

-- the productions that can be empty
abbrev pub can_be_empty : Production → Bool
can_be_empty ParamAfterName = true
can_be_empty FieldAfterName = true
can_be_empty Tails = true
can_be_empty (AfterExpr w) = true
can_be_empty (ClauseBody c) = true
can_be_empty (AfterClauseStmt c) = true
can_be_empty _ = false

abbrev pub tables : Tables Production
tables = record { first = λ n k. is_in (firsts n) k; empty = can_be_empty; follow = λ n k. is_in (follows n) k }

abbrev pub texts : Texts Production
texts = record { brief = brief; rank = rank }
