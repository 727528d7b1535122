-- What single calls of the reader do, before the grammar is looked at.
use Rattle.std.specs.Prelude.{ℕ, ◌≡◌, ◌≤◌, ◌<◌, true, List, [], ◌∷◌, ◌++◌, None, Some, Result, Ok, Err}
use Rattle.go_tree.specs.declared.token.Token.{Token}
use Rattle.go_tree.specs.declared.production.Production.{Production}
use Rattle.go_tree.specs.Height.{height_of}
use Rattle.go_tree.specs.Lexical.Scan.{IsNext}
use Rattle.go_tree.specs.Tree.{tree_of}
use Rattle.go_tree.specs.Grammar.Trees.Reading.{OpenNode, tree_read}
use Rattle.go_text.specs.declared.fault.ParseFault.{ParseFault}
use Rattle.go_text.specs.declared.fault.ParseFault.TheVariants.{Lexical, Syntax, High, NoMemory}
use Rattle.go_parse_x.specs.declared.heights.Heights.{Heights}
use Rattle.go_parse_x.specs.declared.pending.Pending.{Pending}
use Rattle.go_parse_x.specs.declared.progress.Progress.{Progress}
use Rattle.go_parse_x.specs.declared.progress.Progress.TheVariants.{Passed, AtBlock}
use Rattle.go_parse_x.specs.declared.parsed.Parsed.{Parsed}
use Rattle.go_parse_x.specs.declared.parsed.Parsed.TheVariants.{Whole, Block}
use Rattle.go_parse_x.specs.Tables.Opened.{tree_without, numbers_in, Rises}
use Rattle.go_text.specs.Faults.{Spot}
use Rattle.go_parse_x.specs.Answers.{IsAnswer}
use Rattle.go_parse_x.specs.Machine.Heights.{Counts}
use Rattle.go_parse_x.specs.Pieces.{OpensBlock, open_view, IsOpen, IsAwaiting}
use Rattle.go_parse_x.specs.Targets.{hands}
use Rattle.go_tree.specs.Lexical.Faults.{IsLex}

-- the height at the token is free
abbrev pub Fits : ℕ → Token → Heights → Type 0
Fits free token heights = (ts : List Token) → Counts heights ts → height_of (ts ++ token ∷ []) ≤ free

-- it is not, and the fault says so
abbrev pub IsTooHigh : ℕ → Token → Heights → ParseFault → Type 0
IsTooHigh free token heights (High k) = (token.start ≡ k) × ((ts : List Token) → Counts heights ts → free < height_of (ts ++ token ∷ []))
IsTooHigh free token heights NoMemory = Unit {0}
IsTooHigh free token heights fault = ⊥

abbrev pub behind : Token → Spot
behind token = record { at = token.end; last = Some token.kind }

-- the token is passed, and what stands behind it is at fault
abbrev pub IsStray : List ℕ → ℕ → Token → Heights → Spot → Spot → ParseFault → Type 0
IsStray bytes free token heights from to (Lexical e) = (to ≡ behind token) × Fits free token heights × IsLex bytes to.at to.last e
IsStray bytes free token heights from to (Syntax k) = (to ≡ behind token) × Fits free token heights × ((u : Token) × IsNext bytes to.at to.last u × (u.start ≡ k))
IsStray bytes free token heights from to fault = (to ≡ from) × IsTooHigh free token heights fault

-- what a token makes of a piece
abbrev pub IsProgress : List ℕ → Production → ℕ → List Token → Spot → Spot → ℕ → ℕ → Pending → Token → Result Progress ParseFault → Type 0
IsProgress bytes n free front from to low number p token (Ok Passed) = (to ≡ behind token) × (hands p.reading ≡ true → OpensBlock bytes n front token → ⊥) × IsOpen bytes (open_view p) (front ++ token ∷ []) low number to.at to.last
IsProgress bytes n free front from to low number p token (Ok AtBlock) = (to ≡ from) × (p.awaits ≡ true) × (hands p.reading ≡ true) × IsAwaiting bytes (open_view p) front low number to.at to.last
IsProgress bytes n free front from to low number p token (Err fault) = IsAnswer bytes n free front from to low number p (Err fault)

-- the newest node of the open ones is answered
abbrev pub IsRead : List OpenNode → Result Parsed ParseFault → Type 0
IsRead fs (Ok (Whole node)) = tree_read fs ≡ Some (tree_without node)
IsRead fs (Ok Block) = ⊥
IsRead fs (Err fault) = tree_read fs ≡ None

-- with numbers that rise
abbrev pub HasNumbers : List ℕ → Result Parsed ParseFault → Type 0
HasNumbers ns (Ok (Whole node)) = (low next : ℕ) → Rises low ns next → Rises low (numbers_in (tree_of node)) next
HasNumbers ns result = Unit {0}
