-- Where no token starts (Go specification): "Source code representation", "Tokens".
-- Decides which rule a text breaks where it has no next token, and at which byte.
use Prim.Native.Char.{code}
use Rattle.std.specs.Prelude.{◌≡◌, ◌≢◌, ℕ, ◌+◌, ◌<◌, true, List, [], ◌++◌, Option, ◌⊎◌, slice_index, slice_range}
use Rattle.go_base.specs.declared.rule.Family.TheVariants.{S}
use Rattle.go_base.specs.declared.rule.Rule.{Rule}
use Rattle.go_tree.specs.declared.lex.Lex.{Lex}
use Rattle.go_tree.specs.declared.token.Token.{Token}
use Rattle.go_tree.specs.declared.token.TokenKind.{TokenKind}
use Rattle.go_tree.specs.Lexical.Characters.{IsForbidden, Run}
use Rattle.go_tree.specs.Lexical.Comments.{OpensLine, OpensGeneral, IsOpen, in_line_comment, in_general_comment}
use Rattle.go_tree.specs.Lexical.Literals.{IsCharacter, AreCharacters, is_escape, in_raw}
use Rattle.go_tree.specs.Lexical.Scan.{IsPlace, IsNext}

-- an escape from `from` on could still go on at `to`
pub record IsEscapeFront (quote : ℕ) (bytes : List ℕ) (from to : ℕ) : Type 0 where
  pub opens : slice_index bytes from ≡ code "\\"
  pub behind : from < to
  pub rest : List ℕ
  pub some : rest ≢ []
  pub escape : is_escape quote (slice_range bytes (from + 1) to ++ rest) ≡ true

-- a comment, a rune literal or a string literal from `from` on could still go on at `to`
pub data CanGoOn (bytes : List ℕ) (from : ℕ) : ℕ → Type 0 where
  line : {to : ℕ} → OpensLine bytes from → Run in_line_comment bytes (from + 2) to → CanGoOn bytes from to
  general : {to : ℕ} → OpensGeneral bytes from → Run in_general_comment bytes (from + 2) to → IsOpen bytes (from + 2) to → CanGoOn bytes from to
  raw : {to : ℕ} → slice_index bytes from ≡ code "`" → Run in_raw bytes (from + 1) to → CanGoOn bytes from to
  string : {to : ℕ} → slice_index bytes from ≡ code "\"" → AreCharacters (code "\"") bytes (from + 1) to → CanGoOn bytes from to
  string_escape : {at to : ℕ} → slice_index bytes from ≡ code "\"" → AreCharacters (code "\"") bytes (from + 1) at → IsEscapeFront (code "\"") bytes at to → CanGoOn bytes from to
  rune : slice_index bytes from ≡ code "'" → CanGoOn bytes from (from + 1)
  rune_escape : {to : ℕ} → slice_index bytes from ≡ code "'" → IsEscapeFront (code "'") bytes (from + 1) to → CanGoOn bytes from to
  rune_closes : {to : ℕ} → slice_index bytes from ≡ code "'" → IsCharacter (code "'") bytes (from + 1) to → CanGoOn bytes from to

-- a byte that may not stand there: where the next token should start, or where what starts there
-- could still go on
pub record IsForbiddenByte (bytes : List ℕ) (at : ℕ) (last : Option TokenKind) (offset : ℕ) : Type 0 where
  pub place : ℕ
  pub is_place : IsPlace bytes at last place
  pub forbidden : IsForbidden bytes offset
  pub reached : (offset ≡ place) ⊎ CanGoOn bytes place offset

-- no token starts at the place of the next one, and no byte is to blame that may not stand there
pub record IsMissingToken (bytes : List ℕ) (at : ℕ) (last : Option TokenKind) (offset : ℕ) : Type 0 where
  pub is_place : IsPlace bytes at last offset
  pub missing : (t : Token) → IsNext bytes at last t → ⊥
  pub allowed : (n : ℕ) → IsForbiddenByte bytes at last n → ⊥

-- "Implementation restriction": a compiler may disallow NUL and a byte order mark that is not first, and
-- source code is encoded in UTF-8
abbrev pub forbidden_byte : Rule
forbidden_byte = record { family = S; number = 1 }

abbrev pub missing_token : Rule
missing_token = record { family = S; number = 2 }

-- no token starts at the next place, by that rule at that byte
abbrev pub IsLex : List ℕ → ℕ → Option TokenKind → Lex → Type 0
IsLex bytes at last e =
    ((t : Token) → IsNext bytes at last t → ⊥)
    × (((e.rule ≡ forbidden_byte) × IsForbiddenByte bytes at last e.offset)
    ⊎ ((e.rule ≡ missing_token) × IsMissingToken bytes at last e.offset))
