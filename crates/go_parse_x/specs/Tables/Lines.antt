-- Lines of steps: which right side stands at a place of a line.
use Rattle.std.specs.Prelude.{ℕ, zero, suc, ◌+◌, List, [], ◌∷◌, Option, None, Some, length, slice_get, map, reverse}
use Rattle.go_tree.specs.declared.token.TokenKind.TheVariants.{Ident, KwChan, Arrow, LeftBracket, LeftBrace, Dot}
use Rattle.go_tree.specs.declared.production.Production.{Production}
use Rattle.go_tree.specs.Grammar.RightSide as r
use Rattle.go_tree.specs.Grammar.RightSide.{RightSide, Do, Ahead, OneOf, Both}
use Rattle.go_tree.specs.Grammar.Types.{result_starts}
use Rattle.go_parse_x.specs.declared.line.Asked.{Asked}
use Rattle.go_parse_x.specs.declared.line.Asked.TheVariants.{Brace, Bracket, Result, Qualifier, Receive}
use Rattle.go_parse_x.specs.declared.line.Step.{Step}
use Rattle.go_parse_x.specs.declared.line.Step.TheVariants.{Pass, Open, Reopen, Adopt, CheckType, Close, Call, Nothing, Seq, Or, Many, When}

abbrev pub ahead_of : Asked → Ahead
ahead_of Brace = OneOf (LeftBrace ∷ [])
ahead_of Bracket = OneOf (LeftBracket ∷ [])
ahead_of Result = OneOf result_starts
ahead_of Qualifier = Both Dot Ident
ahead_of Receive = Both Arrow KwChan

-- what a step stands for, where `part` says which right side stands so far behind it
abbrev pub from_step : (ℕ → RightSide Production) → Step → RightSide Production
from_step part (Pass kind) = Do (r.Pass kind)
from_step part Open = Do r.Open
from_step part Reopen = Do r.Reopen
from_step part Adopt = Do r.Adopt
from_step part CheckType = Do r.CheckType
from_step part (Close kind) = Do (r.Close kind)
from_step part (Call n) = r.Call n
from_step part Nothing = r.Nothing
from_step part (Seq first) = r.Seq (part 0) (part first)
from_step part (Or first set) = r.Or (part 0) (part first)
from_step part (Many set) = r.Many (part 0)
from_step part (When asked first) = r.When (ahead_of asked) (part 0) (part first)

abbrev pub from_option : (ℕ → RightSide Production) → Option Step → RightSide Production
from_option part None = r.Nothing
from_option part (Some step) = from_step part step

-- the right side at a place of a line, read to a depth; outside the line there is nothing
abbrev pub decode : ℕ → List Step → ℕ → RightSide Production
decode zero line at = r.Nothing
decode (suc depth) line at = from_option (λ further. decode depth line (at + 1 + further)) (slice_get line at)

-- the right side at a place of a line
abbrev pub side_at : List Step → ℕ → RightSide Production
side_at line at = decode (length line) line at

-- the right side that a place stands for, a line and where in it
abbrev pub side : List Step × ℕ → RightSide Production
side place = side_at place.0 place.1

-- what a stack of places stands for, the top first
abbrev pub sides : List (List Step × ℕ) → List (RightSide Production)
sides places = reverse (map side places)

-- the same where a place comes first, if there is one
abbrev pub on_top : Option (List Step × ℕ) → List (RightSide Production) → List (RightSide Production)
on_top None gs = gs
on_top (Some place) gs = side place ∷ gs
