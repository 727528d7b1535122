-- Heights that are kept up token by token: for each open bracket how many tokens count since it stands.
use Rattle.std.specs.Prelude.{◌≡◌, ◌<◌, ◌+◌, ◌^◌, ℕ, suc, List, [], ◌∷◌, ◌++◌, length, Some}
use Rattle.go_tree.specs.declared.token.Token.{Token}
use Rattle.go_tree.specs.declared.token.TokenKind.TheVariants.{Ident}
use Rattle.go_tree.specs.Height.{Mark, Bracket, Lasting, Passing, counted}
use Rattle.go_parse_x.specs.declared.heights.Level.{Level}
use Rattle.go_parse_x.specs.declared.heights.Levels.{Levels}
use Rattle.go_parse_x.specs.declared.heights.Heights.{Heights}

-- how many lasting marks stand before the first bracket
abbrev pub lasting_in : List Mark → ℕ
lasting_in [] = 0
lasting_in (Bracket ∷ ms) = 0
lasting_in (Lasting ∷ ms) = suc (lasting_in ms)
lasting_in (Passing ∷ ms) = lasting_in ms

-- and how many passing ones
abbrev pub passing_in : List Mark → ℕ
passing_in [] = 0
passing_in (Bracket ∷ ms) = 0
passing_in (Lasting ∷ ms) = passing_in ms
passing_in (Passing ∷ ms) = suc (passing_in ms)

abbrev pub level_in : List Mark → Level
level_in ms = record { lasting = lasting_in ms; passing = passing_in ms }

-- the levels behind the brackets, the outermost first
abbrev pub enclosing : List Mark → List Level
enclosing [] = []
enclosing (Bracket ∷ ms) = enclosing ms ++ level_in ms ∷ []
enclosing (Lasting ∷ ms) = enclosing ms
enclosing (Passing ∷ ms) = enclosing ms

-- the levels that these marks have
pub record AreLevels (levels : Levels) (ms : List Mark) : Type 0 where
  pub outer : levels.outer.items ≡ enclosing ms
  pub inner : levels.inner ≡ level_in ms
  pub total : levels.total ≡ length ms

-- two passing tokens more can be counted
pub record HasRoom (levels : Levels) : Type 0 where
  pub total : levels.total + 2 < 2 ^ 64
  pub passing : levels.inner.passing + 2 < 2 ^ 64

-- what is known behind these tokens; the kind of the token before the last matters where that is an
-- identifier
pub record Counts (heights : Heights) (ts : List Token) : Type 0 where
  pub levels : AreLevels heights.levels (counted ts).marks
  pub last : heights.last ≡ (counted ts).last
  pub before : (counted ts).last ≡ Some Ident → heights.before ≡ (counted ts).before
