-- Comments (Go specification).
-- Decides where a whole comment stands. What it does to the tokens around it: `Scan`.
use Prim.Native.Char.{code}
use Rattle.std.specs.Prelude.{◌≡◌, ℕ, ◌+◌, ◌≤◌, ◌==◌, ◌&&◌, not, Bool, List, length, ◌⊎◌, slice_index}
use Rattle.go_tree.specs.Lexical.Characters.{Run, is_allowed}

abbrev pub in_line_comment : ℕ → ℕ → Bool
in_line_comment before c = is_allowed c && not (c == code "\n")

abbrev pub in_general_comment : ℕ → ℕ → Bool
in_general_comment before c = is_allowed c

-- `//` stands at the offset
abbrev pub OpensLine : List ℕ → ℕ → Type 0
OpensLine bytes at = (slice_index bytes at ≡ code "/") × (slice_index bytes (at + 1) ≡ code "/")

-- `/*` stands at the offset
abbrev pub OpensGeneral : List ℕ → ℕ → Type 0
OpensGeneral bytes at = (slice_index bytes at ≡ code "/") × (slice_index bytes (at + 1) ≡ code "*")

-- `*/` stands at the offset
abbrev pub Closes : List ℕ → ℕ → Type 0
Closes bytes at = (slice_index bytes at ≡ code "*") × (slice_index bytes (at + 1) ≡ code "/")

-- no `*/` stands between two offsets
abbrev pub IsOpen : List ℕ → ℕ → ℕ → Type 0
IsOpen bytes from to = (at : ℕ) → from ≤ at → at + 2 ≤ to → Closes bytes at → ⊥

-- "Line comments start with the character sequence // and stop at the end of the line", or of the file
pub record IsLineComment (bytes : List ℕ) (from to : ℕ) : Type 0 where
  pub opens : OpensLine bytes from
  pub inside : Run in_line_comment bytes (from + 2) to
  pub ends : (to ≡ length bytes) ⊎ (slice_index bytes to ≡ code "\n")

-- "General comments start with the character sequence /* and stop with the first subsequent character sequence */"
pub record IsGeneralComment (bytes : List ℕ) (from to : ℕ) : Type 0 where
  pub opens : OpensGeneral bytes from
  pub close : ℕ
  pub inside : Run in_general_comment bytes (from + 2) close
  pub closes : Closes bytes close
  pub first : IsOpen bytes (from + 2) (close + 1)
  pub ends : to ≡ close + 2
