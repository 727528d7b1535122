-- Tokens that are the whole of a text.
use Rattle.std.specs.Prelude.{◌≡◌, ℕ}
use Rattle.go_tree.specs.declared.token.Token.{Token}
use Rattle.go_tree.specs.declared.token.TokenKind.TheVariants.{Text}

-- a string literal that has all bytes of a text of that length
pub record IsWholeText (token : Token) (len : ℕ) : Type 0 where
  pub kind : token.kind ≡ Text
  pub start : token.start ≡ 0
  pub end : token.end ≡ len
