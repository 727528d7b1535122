-- The kinds that begin a right side, and the sets of them that stand beside the steps of a line.
use Rattle.std.specs.Prelude.{ℕ, zero, suc, ◌+◌, ◌==◌, ◌≡◌, Bool, true, not, ◌&&◌, List, [], ◌∷◌, ◌++◌, filter, cond, Option, None, Some, length, slice_get}
use Rattle.go_tree.specs.declared.token.TokenKind.{TokenKind}
use Rattle.go_tree.specs.declared.production.Production.{Production}
use Rattle.go_tree.specs.Grammar.RightSide.{RightSide, Do, Call, Nothing, Seq, Or, Many, When, Pass}
use Rattle.go_tree.specs.Grammar.Tables.First.{firsts}
use Rattle.go_tree.specs.Grammar.Tables.Prediction.{begins, is_empty, may_look, may_miss}
use Rattle.go_tree.specs.Grammar.Trees.Sentence.{tables}
use Rattle.go_parse_x.specs.declared.line.Step.{Step}
use Rattle.go_parse_x.specs.declared.line.Step.TheVariants as s
use Rattle.go_parse_x.specs.Tables.KindSets.{set_of, has_kind}
use Rattle.go_parse_x.specs.Tables.Lines.{side_at}

-- the kinds that a right side can begin with
abbrev pub kinds_of : RightSide Production → List TokenKind
kinds_of (Do (Pass k)) = k ∷ []
kinds_of (Do a) = []
kinds_of (Call n) = firsts n
kinds_of Nothing = []
kinds_of (Seq g h) = kinds_of g ++ cond (is_empty tables g) (kinds_of h) []
kinds_of (Or g h) = kinds_of g ++ kinds_of h
kinds_of (Many g) = kinds_of g
kinds_of (When a g h) = filter (may_look a) (kinds_of g) ++ filter (may_miss a) (kinds_of h)

-- whether the set beside a step is that of its first part, where `part` says which right side stands so far behind it
abbrev pub is_led : (ℕ → RightSide Production) → Step → Bool
is_led part (s.Or first set) = (set == set_of (kinds_of (part 0))) && not (is_empty tables (part 0))
is_led part (s.Many set) = set == set_of (kinds_of (part 0))
is_led part step = true

abbrev pub is_led_option : (ℕ → RightSide Production) → Option Step → Bool
is_led_option part None = true
is_led_option part (Some step) = is_led part step

-- the same for so many steps of a line, from a place on
abbrev pub led_from : ℕ → List Step → ℕ → Bool
led_from zero line at = true
led_from (suc more) line at = is_led_option (λ further. side_at line (at + 1 + further)) (slice_get line at) && led_from more line (at + 1)

-- the same for all
abbrev pub all_led : List Step → Bool
all_led line = led_from (length line) line 0

-- the set has the kinds that begin the right side
abbrev pub IsSetOf : ℕ → RightSide Production → Type 0
IsSetOf set g = (k : TokenKind) → has_kind set k ≡ begins tables g k
