-- own: the height at a token, how many tokens count there. The Go specification knows no heights.
use Rattle.std.specs.Prelude.{ℕ, ◌≡◌, ◌≤◌, ◌++◌, zero, suc, Bool, true, false, List, [], ◌∷◌, Option, None, Some, fold, length, if◌then◌else◌}
use Rattle.go_tree.specs.declared.token.Token.{Token}
use Rattle.go_tree.specs.declared.token.TokenKind.{TokenKind}
use Rattle.go_tree.specs.declared.token.TokenKind.TheVariants.{Ident, KwElse, LeftParen, LeftBracket, LeftBrace, RightParen, RightBracket, RightBrace, Comma, Semicolon, InsertedSemicolon, Colon}
use Rattle.go_tree.specs.declared.token_height.Role.{Role}
use Rattle.go_tree.specs.declared.token_height.Role.TheVariants.{Opens, Closes, Separates, CountsOn, Counts}

-- a token that counts: an open bracket, one that counts on at `,` and `;`, or another
pub data Mark : Type 0 where
  Bracket : Mark
  Lasting : Mark
  Passing : Mark

-- the tokens that count, the newest first, and the kinds of the last token and of the one before it
pub record Counted : Type 0 where
  pub marks : List Mark
  pub last : Option TokenKind
  pub before : Option TokenKind

-- at `)`, `]` and `}` the tokens after the innermost open bracket count no longer, and that bracket is
-- open no longer; it counts on itself
abbrev pub behind_close : List Mark → List Mark
behind_close [] = []
behind_close (Bracket ∷ ms) = Passing ∷ ms
behind_close (Lasting ∷ ms) = behind_close ms
behind_close (Passing ∷ ms) = behind_close ms

-- at `,` and `;` the tokens after the innermost open bracket, or after the start where none is open, count
-- no longer, but for those that last
abbrev pub behind_separator : List Mark → List Mark
behind_separator [] = []
behind_separator (Bracket ∷ ms) = Bracket ∷ ms
behind_separator (Lasting ∷ ms) = Lasting ∷ behind_separator ms
behind_separator (Passing ∷ ms) = behind_separator ms

-- what counts behind a token: each but `,` and `;` counts from its own place on
abbrev pub marks_behind : List Mark → Role → List Mark
marks_behind ms Opens = Bracket ∷ ms
marks_behind ms Closes = Passing ∷ behind_close ms
marks_behind ms Separates = behind_separator ms
marks_behind ms CountsOn = Lasting ∷ ms
marks_behind ms Counts = Passing ∷ ms

-- behind `{`, `;` and `:` an identifier can be a label
abbrev pub before_label : TokenKind → Bool
before_label LeftBrace = true
before_label Semicolon = true
before_label InsertedSemicolon = true
before_label Colon = true
before_label _ = false

-- whether the last two tokens are an identifier and one before a label
abbrev pub behind_label : Option TokenKind → Option TokenKind → Bool
behind_label (Some Ident) (Some k) = before_label k
behind_label _ _ = false

-- what a token does, behind those two: an `else` counts on, and a `:` directly after an identifier that
-- stands directly after `{`, `;` or `:`
abbrev pub role_of : TokenKind → Option TokenKind → Option TokenKind → Role
role_of LeftParen last before = Opens
role_of LeftBracket last before = Opens
role_of LeftBrace last before = Opens
role_of RightParen last before = Closes
role_of RightBracket last before = Closes
role_of RightBrace last before = Closes
role_of Comma last before = Separates
role_of Semicolon last before = Separates
role_of InsertedSemicolon last before = Separates
role_of KwElse last before = CountsOn
role_of Colon last before = if behind_label last before then CountsOn else Counts
role_of _ last before = Counts

abbrev pub counted_at : Counted → Token → Counted
counted_at c t = record { marks = marks_behind c.marks (role_of t.kind c.last c.before); last = Some t.kind; before = c.last }

-- what counts behind these tokens; before the first none does
abbrev pub counted : List Token → Counted
counted ts = fold counted_at (record { marks = []; last = None; before = None }) ts

-- the height at the last of these tokens, and 0 where there is none
abbrev pub height_of : List Token → ℕ
height_of ts = length (counted ts).marks

-- no token has a height past what is free
abbrev pub AllFit : ℕ → List Token → Type 0
AllFit free tokens = (front rest : List Token) → tokens ≡ front ++ rest → height_of front ≤ free

-- Counting back: how many of these marks count, where so many brackets are closed behind them, and
-- perhaps a `,` or `;` stands behind.
abbrev pub after_closing : ℕ → List Mark → List Mark
after_closing zero ms = ms
after_closing (suc n) ms = after_closing n (behind_close ms)

abbrev pub left : ℕ → Bool → List Mark → ℕ
left closed true ms = length (behind_separator (after_closing closed ms))
left closed false ms = length (after_closing closed ms)
