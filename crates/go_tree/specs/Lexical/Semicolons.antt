-- Semicolons (Go specification).
-- Decides after which tokens the end of a line inserts a semicolon. Where it stands: `Scan`.
use Rattle.std.specs.Prelude.{Bool, true, false, Option, Some, None}
use Rattle.go_tree.specs.declared.token.TokenKind.{TokenKind}
use Rattle.go_tree.specs.declared.token.TokenKind.TheVariants.{Ident, Int, Float, Rune, Text, KwBreak, KwContinue, KwFallthrough, KwReturn, Inc, Dec, RightParen, RightBracket, RightBrace}

-- "a semicolon is automatically inserted into the token stream immediately after a line's final token
-- if that token is an identifier, an integer, floating-point, imaginary, rune, or string literal, one
-- of the keywords break, continue, fallthrough, or return, one of the operators and punctuation ++,
-- --, ), ], or }"
abbrev pub ends_a_line : TokenKind → Bool
ends_a_line Ident = true
ends_a_line Int = true
ends_a_line Float = true
ends_a_line Rune = true
ends_a_line Text = true
ends_a_line KwBreak = true
ends_a_line KwContinue = true
ends_a_line KwFallthrough = true
ends_a_line KwReturn = true
ends_a_line Inc = true
ends_a_line Dec = true
ends_a_line RightParen = true
ends_a_line RightBracket = true
ends_a_line RightBrace = true
ends_a_line _ = false

-- whether the end of a line, and own: the end of the file, inserts a semicolon after that token
abbrev pub inserts_after : Option TokenKind → Bool
inserts_after None = false
inserts_after (Some kind) = ends_a_line kind
