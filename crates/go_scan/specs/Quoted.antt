-- The texts of rune and string literals, and of escapes.
-- Says which bytes are the text of a literal that stands somewhere.
use Prim.Native.Char.{code}
use Rattle.std.specs.Prelude.{◌≡◌, ◌≢◌, ◌⊎◌, ℕ, ◌+◌, ◌<◌, ◌≤◌, List, [], ◌∷◌, drop, encode_utf8, length, slice_index, slice_range}
use Rattle.go_tree.specs.Lexical.Literals.{IsInterpretedLit, IsRawLit, IsRuneLit}
use Rattle.go_scan.specs.declared.values.Piece.{Piece}
use Rattle.go_scan.specs.declared.values.Piece.TheVariants.{Byte, Char}
use Rattle.go_scan.specs.Escapes.{IsQuote, IsEscape}

-- the text of an escape behind its backslash
pub record IsEscapeText (text : List ℕ) : Type 0 where
  pub quote : ℕ
  pub is_quote : IsQuote quote
  pub is : IsEscape quote text

-- the text of a rune literal with its quotes
pub record IsRuneText (text : List ℕ) : Type 0 where
  pub bytes : List ℕ
  pub from : ℕ
  pub to : ℕ
  pub lit : IsRuneLit bytes from to
  pub is : text ≡ slice_range bytes from to

-- the inside of a rune literal
pub record IsRuneInside (text : List ℕ) : Type 0 where
  pub some : 0 < length text
  pub escape : slice_index text 0 ≡ code "\\" → IsEscapeText (drop 1 text)

-- the bytes of what an escape in a string stands for
abbrev pub piece_text : Piece → List ℕ
piece_text (Byte b) = b ∷ []
piece_text (Char c) = encode_utf8 c

-- from `at` up to `close` each backslash begins an escape of an interpreted string
pub data Escapes (bytes : List ℕ) (close : ℕ) : ℕ → Type 0 where
  done : close ≤ length bytes → Escapes bytes close close
  byte : {at : ℕ} → at < close → slice_index bytes at ≢ code "\\" → Escapes bytes close (at + 1) → Escapes bytes close at
  escape : {at to : ℕ} → slice_index bytes at ≡ code "\\" → IsEscape (code "\"") (slice_range bytes (at + 1) to) → to ≤ close → Escapes bytes close to → Escapes bytes close at

-- a string literal of either form
abbrev pub IsStringLit : List ℕ → ℕ → ℕ → Type 0
IsStringLit bytes from to = IsInterpretedLit bytes from to ⊎ IsRawLit bytes from to
