-- Tokens (Go specification): "Identifiers", "Keywords", "Operators and punctuation".
-- Decides which tokens stand at an offset, and which is the longest. Literals: `Numbers`, `Literals`;
-- what stands between two tokens: `Scan`.
use Rattle.std.specs.Prelude.{◌≡◌, ℕ, ◌+◌, ◌<◌, ◌≤◌, true, List, [], length, codes, Some, ◌⊎◌, slice_range}
use Rattle.go_tree.specs.declared.token.TokenKind.{TokenKind}
use Rattle.go_tree.specs.declared.token.TokenKind.TheVariants.{Ident, Int, Float, Rune, Text, KwBreak, KwCase, KwChan, KwConst, KwContinue, KwDefault, KwDefer, KwElse, KwFallthrough, KwFor, KwFunc, KwGo, KwGoto, KwIf, KwImport, KwInterface, KwMap, KwPackage, KwRange, KwReturn, KwSelect, KwStruct, KwSwitch, KwType, KwVar, Add, Sub, Mul, Quo, Rem, And, Or, Xor, Shl, Shr, AndNot, AddAssign, SubAssign, MulAssign, QuoAssign, RemAssign, AndAssign, OrAssign, XorAssign, ShlAssign, ShrAssign, AndNotAssign, LogicalAnd, LogicalOr, Arrow, Inc, Dec, Equal, Less, Greater, Assign, Not, Tilde, NotEqual, LessEqual, GreaterEqual, Define, Ellipsis, LeftParen, LeftBracket, LeftBrace, Comma, Dot, RightParen, RightBracket, RightBrace, Semicolon, Colon, InsertedSemicolon, End}
use Rattle.go_tree.specs.Lexical.Characters.{decoded_at, is_letter, is_letter_or_digit, Run}
use Rattle.go_tree.specs.Lexical.Comments.{OpensLine, OpensGeneral}
use Rattle.go_tree.specs.Lexical.Numbers.{IsNumberRun, number_kind}
use Rattle.go_tree.specs.Lexical.Literals.{IsRuneLit, IsInterpretedLit, IsRawLit}

-- the text of a keyword, an operator or a punctuation mark; empty for the kinds that have no text of their own
abbrev pub spelling : TokenKind → List ℕ
spelling KwBreak = codes "break"
spelling KwCase = codes "case"
spelling KwChan = codes "chan"
spelling KwConst = codes "const"
spelling KwContinue = codes "continue"
spelling KwDefault = codes "default"
spelling KwDefer = codes "defer"
spelling KwElse = codes "else"
spelling KwFallthrough = codes "fallthrough"
spelling KwFor = codes "for"
spelling KwFunc = codes "func"
spelling KwGo = codes "go"
spelling KwGoto = codes "goto"
spelling KwIf = codes "if"
spelling KwImport = codes "import"
spelling KwInterface = codes "interface"
spelling KwMap = codes "map"
spelling KwPackage = codes "package"
spelling KwRange = codes "range"
spelling KwReturn = codes "return"
spelling KwSelect = codes "select"
spelling KwStruct = codes "struct"
spelling KwSwitch = codes "switch"
spelling KwType = codes "type"
spelling KwVar = codes "var"
spelling Add = codes "+"
spelling Sub = codes "-"
spelling Mul = codes "*"
spelling Quo = codes "/"
spelling Rem = codes "%"
spelling And = codes "&"
spelling Or = codes "|"
spelling Xor = codes "^"
spelling Shl = codes "<<"
spelling Shr = codes ">>"
spelling AndNot = codes "&^"
spelling AddAssign = codes "+="
spelling SubAssign = codes "-="
spelling MulAssign = codes "*="
spelling QuoAssign = codes "/="
spelling RemAssign = codes "%="
spelling AndAssign = codes "&="
spelling OrAssign = codes "|="
spelling XorAssign = codes "^="
spelling ShlAssign = codes "<<="
spelling ShrAssign = codes ">>="
spelling AndNotAssign = codes "&^="
spelling LogicalAnd = codes "&&"
spelling LogicalOr = codes "||"
spelling Arrow = codes "<-"
spelling Inc = codes "++"
spelling Dec = codes "--"
spelling Equal = codes "=="
spelling Less = codes "<"
spelling Greater = codes ">"
spelling Assign = codes "="
spelling Not = codes "!"
spelling Tilde = codes "~"
spelling NotEqual = codes "!="
spelling LessEqual = codes "<="
spelling GreaterEqual = codes ">="
spelling Define = codes ":="
spelling Ellipsis = codes "..."
spelling LeftParen = codes "("
spelling LeftBracket = codes "["
spelling LeftBrace = codes "{"
spelling Comma = codes ","
spelling Dot = codes "."
spelling RightParen = codes ")"
spelling RightBracket = codes "]"
spelling RightBrace = codes "}"
spelling Semicolon = codes ";"
spelling Colon = codes ":"
spelling Ident = []
spelling Int = []
spelling Float = []
spelling Rune = []
spelling Text = []
spelling InsertedSemicolon = []
spelling End = []

-- identifier = letter { letter | unicode_digit }
pub record IsWord (bytes : List ℕ) (from to : ℕ) : Type 0 where
  pub first : ℕ
  pub char : (decoded_at bytes from).char ≡ Some first
  pub letter : is_letter first ≡ true
  pub others : Run (λ before c. is_letter_or_digit c) bytes (from + (decoded_at bytes from).size) to

-- the bytes are a keyword, an operator or a punctuation mark
abbrev pub IsSpelled : TokenKind → List ℕ → Type 0
IsSpelled kind text = (spelling kind ≡ text) × (0 < length text)

-- a token of the kind stands from `from` up to `to`; "the following keywords are reserved and may not
-- be used as identifiers", and own: a number is a token as a whole
abbrev pub IsToken : List ℕ → TokenKind → ℕ → ℕ → Type 0
IsToken bytes Ident from to = IsWord bytes from to × ((kind : TokenKind) → IsSpelled kind (slice_range bytes from to) → ⊥)
IsToken bytes Int from to = IsNumberRun bytes from to × (number_kind (slice_range bytes from to) ≡ Some Int)
IsToken bytes Float from to = IsNumberRun bytes from to × (number_kind (slice_range bytes from to) ≡ Some Float)
IsToken bytes Rune from to = IsRuneLit bytes from to
IsToken bytes Text from to = IsInterpretedLit bytes from to ⊎ IsRawLit bytes from to
IsToken bytes kind from to = IsSpelled kind (slice_range bytes from to)

-- a token, a run of a number, or what opens a comment
abbrev pub IsLexeme : List ℕ → ℕ → ℕ → Type 0
IsLexeme bytes from to =
    ((kind : TokenKind) × IsToken bytes kind from to)
    ⊎ (IsNumberRun bytes from to
    ⊎ ((to ≡ from + 2) × (OpensLine bytes from ⊎ OpensGeneral bytes from)))

-- "the next token is the longest sequence of characters that form a valid token": a token stands
-- there, and nothing longer does
pub record IsLongest (bytes : List ℕ) (kind : TokenKind) (from to : ℕ) : Type 0 where
  pub within : to ≤ length bytes
  pub token : IsToken bytes kind from to
  pub longest : (n : ℕ) → to < n → n ≤ length bytes → IsLexeme bytes from n → ⊥
