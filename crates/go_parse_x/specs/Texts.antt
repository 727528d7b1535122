-- Looking ahead in a text.
-- Decides which token stands so many places ahead. What the next token is: `Scan` of go_tree.
use Rattle.std.specs.Prelude.{ℕ, zero, suc, ◌≡◌, ◌≢◌, List, [], ◌∷◌, ◌++◌, Option, Some, ◌⊎◌}
use Rattle.go_tree.specs.declared.token.Token.{Token}
use Rattle.go_tree.specs.declared.token.TokenKind.{TokenKind}
use Rattle.go_tree.specs.declared.token.TokenKind.TheVariants.{End}
use Rattle.go_tree.specs.Lexical.Faults.{IsLex}
use Rattle.go_tree.specs.Lexical.Scan.{IsNext}
use Rattle.go_tree.specs.declared.lex.Lex.{Lex}

-- the token so many places behind the next one, or the end where there are not as many
abbrev pub IsAhead : List ℕ → ℕ → Option TokenKind → ℕ → Token → Type 0
IsAhead bytes at last zero t = IsNext bytes at last t
IsAhead bytes at last (suc n) t =
    (IsNext bytes at last t × (t.kind ≡ End))
    ⊎ ((u : Token) × IsNext bytes at last u × (u.kind ≢ End) × IsAhead bytes u.end (Some u.kind) n t)

-- there is none, since no token starts there or before it
abbrev pub IsLexAhead : List ℕ → ℕ → Option TokenKind → ℕ → Lex → Type 0
IsLexAhead bytes at last zero e = IsLex bytes at last e
IsLexAhead bytes at last (suc n) e =
    IsLex bytes at last e
    ⊎ ((u : Token) × IsNext bytes at last u × (u.kind ≢ End) × IsLexAhead bytes u.end (Some u.kind) n e)

-- the place directly behind the last of these tokens, of that kind; nothing is said where there is none
pub data IsBehind : List Token → ℕ → Option TokenKind → Type 0 where
  none : {at : ℕ} {last : Option TokenKind} → IsBehind [] at last
  one : (ts : List Token) (t : Token) → IsBehind (ts ++ t ∷ []) t.end (Some t.kind)
