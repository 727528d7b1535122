-- Lexical elements (Go specification): "Comments", "Tokens", "Semicolons".
-- Decides the tokens of a text: what stands between two of them, and where semicolons are inserted. Where no token
-- starts: `Faults`.
use Prim.Native.Char.{code}
use Rattle.std.specs.Prelude.{◌≡◌, ◌≢◌, ℕ, ◌+◌, ◌<◌, ◌≤◌, Bool, true, if◌then◌else◌, List, [], ◌∷◌, length, Option, Some, None, slice_index}
use Rattle.go_tree.specs.declared.token.Token.{Token}
use Rattle.go_tree.specs.declared.token.TokenKind.{TokenKind}
use Rattle.go_tree.specs.declared.token.TokenKind.TheVariants.{InsertedSemicolon, End}
use Rattle.go_tree.specs.Lexical.Characters.{decoded_at, is_white_space, byte_order_mark}
use Rattle.go_tree.specs.Lexical.Comments.{IsLineComment, IsGeneralComment}
use Rattle.go_tree.specs.Lexical.Semicolons.{inserts_after}
use Rattle.go_tree.specs.Lexical.Tokens.{IsLongest}

-- white space, a whole comment, or the byte order mark that is the first character
pub data Space (bytes : List ℕ) (from : ℕ) : ℕ → Type 0 where
  white : is_white_space (slice_index bytes from) ≡ true → Space bytes from (from + 1)
  line : {to : ℕ} → IsLineComment bytes from to → Space bytes from to
  general : {to : ℕ} → IsGeneralComment bytes from to → Space bytes from to
  mark : from ≡ 0 → (decoded_at bytes from).char ≡ Some byte_order_mark → Space bytes from (from + (decoded_at bytes from).size)

-- the first newline between two offsets
pub record IsFirstNewline (bytes : List ℕ) (from to at : ℕ) : Type 0 where
  pub behind : from ≤ at
  pub before : at < to
  pub newline : slice_index bytes at ≡ code "\n"
  pub first : (n : ℕ) → from ≤ n → n < at → slice_index bytes n ≡ code "\n" → ⊥

-- space that is passed over, where `stops` says whether the end of a line inserts a semicolon
abbrev pub Passed : Bool → List ℕ → ℕ → ℕ → Type 0
Passed stops bytes from to = Space bytes from to × (stops ≡ true → (at : ℕ) → IsFirstNewline bytes from to at → ⊥)

pub data Gap (stops : Bool) (bytes : List ℕ) (from : ℕ) : ℕ → Type 0 where
  none : Gap stops bytes from from
  more : {at to : ℕ} → Gap stops bytes from at → Passed stops bytes at to → Gap stops bytes from to

-- where the next thing stands from `at` on: behind all that is passed over
pub record IsPlace (bytes : List ℕ) (at : ℕ) (last : Option TokenKind) (place : ℕ) : Type 0 where
  pub gap : Gap (inserts_after last) bytes at place
  pub whole : (to : ℕ) → Passed (inserts_after last) bytes place to → ⊥

-- what stands there: at the end of the file an inserted semicolon or the end; at space, whose newline
-- is not passed over, the inserted semicolon from that newline on; else the longest token
pub data IsFirst (bytes : List ℕ) (last : Option TokenKind) (place : ℕ) (t : Token) : Type 0 where
  ends : place ≡ length bytes → t.kind ≡ (if inserts_after last then InsertedSemicolon else End) → t.start ≡ place → t.end ≡ place → IsFirst bytes last place t
  newline : t.kind ≡ InsertedSemicolon → Space bytes place t.end → IsFirstNewline bytes place t.end t.start → IsFirst bytes last place t
  written : ((to : ℕ) → Space bytes place to → ⊥) → t.start ≡ place → IsLongest bytes t.kind place t.end → IsFirst bytes last place t

-- the next token from `at` on, where a token of the kind `last` stands before
pub record IsNext (bytes : List ℕ) (at : ℕ) (last : Option TokenKind) (t : Token) : Type 0 where
  pub place : ℕ
  pub is_place : IsPlace bytes at last place
  pub first : IsFirst bytes last place t

-- the tokens from `at` on, each the next behind the one before it, the end last
abbrev pub ScanFrom : List ℕ → ℕ → Option TokenKind → List Token → Type 0
ScanFrom bytes at last [] = ⊥
ScanFrom bytes at last (t ∷ []) = IsNext bytes at last t × (t.kind ≡ End)
ScanFrom bytes at last (t ∷ (u ∷ us)) = IsNext bytes at last t × (t.kind ≢ End) × ScanFrom bytes t.end (Some t.kind) (u ∷ us)

-- the tokens of a text
abbrev pub Scan : List ℕ → List Token → Type 0
Scan bytes tokens = ScanFrom bytes 0 None tokens

-- these are the tokens from one place to another, where a token of the kind `last` stands before the first place;
-- the end of the file is none of them
abbrev pub Stand : List ℕ → ℕ → Option TokenKind → List Token → ℕ → Option TokenKind → Type 0
Stand bytes at last [] to kind = (at ≡ to) × (last ≡ kind)
Stand bytes at last (t ∷ ts) to kind = IsNext bytes at last t × (t.kind ≢ End) × Stand bytes t.end (Some t.kind) ts to kind
