-- Lists of tokens.
-- Says what it means that a text has none.
use Rattle.std.specs.Prelude.{ℕ, List, Option, None, ⊤}
use Rattle.go_tree.specs.declared.lex.Lex.{Lex}
use Rattle.go_tree.specs.declared.token.Token.{Token}
use Rattle.go_tree.specs.declared.token.TokenKind.{TokenKind}
use Rattle.go_tree.specs.Lexical.Faults.{IsLex}
use Rattle.go_tree.specs.Lexical.Scan.{Scan, Stand}
use Rattle.go_scan.specs.declared.token_list.ScanFault.{ScanFault}
use Rattle.go_scan.specs.declared.token_list.ScanFault.TheVariants.{Lexical, NoMemory}

-- the text has no list of tokens: behind some of its tokens none starts, by that rule at that byte
pub record EndsEarly (bytes : List ℕ) (lex : Lex) : Type 0 where
  pub no_list : (tokens : List Token) → Scan bytes tokens → ⊥
  pub tokens : List Token
  pub at : ℕ
  pub last : Option TokenKind
  pub stand : Stand bytes 0 None tokens at last
  pub none_starts : IsLex bytes at last lex

-- so says a lexical fault; want of memory says nothing
abbrev pub HasNoTokens : List ℕ → ScanFault → Type 0
HasNoTokens bytes (Lexical lex) = EndsEarly bytes lex
HasNoTokens bytes NoMemory = ⊤
