-- Lines of go.mod (Go modules reference, "go.mod files").
-- Decides which lines a text has, what counts of each, and which of them stand outside blocks.
use Rattle.std.specs.Prelude.{ℕ, ◌+◌, ◌-◌, ◌==◌, ◌&&◌, ◌||◌, not, nat_eq, Bool, true, false, if◌then◌else◌}
use Rattle.std.specs.Prelude.{List, [], ◌∷◌, codes, drop, length, take}
use Rattle.std.specs.List.{starts_with, ends_with, prefix_len, suffix_len, take_while, slice_split}
use Rattle.std.specs.Cmp.Lexicographic.{pointwise}
use Rattle.go_base.specs.Place.{is_blank, is_newline}

-- a text, and the offset of the line that it stands in
pub record LineText : Type 0 where
  pub offset : ℕ
  pub text : List ℕ

abbrev pub is_not_blank : ℕ → Bool
is_not_blank b = not (is_blank b)

abbrev pub is_text : List ℕ → List ℕ → Bool
is_text text word = pointwise nat_eq text word

-- without the blanks at its start
abbrev pub trim_start : List ℕ → List ℕ
trim_start text = drop (prefix_len is_blank text) text

-- without the blanks at its end
abbrev pub trim_end : List ℕ → List ℕ
trim_end text = take (length text - suffix_len is_blank text) text

-- what stands before the first `//`
abbrev pub before_comment : List ℕ → List ℕ
before_comment [] = []
before_comment (b ∷ bs) =
    if starts_with nat_eq (b ∷ bs) (codes "//") then [] else b ∷ before_comment bs

-- what counts of a line: neither its comment nor the blanks at the ends
abbrev pub content : List ℕ → List ℕ
content line = trim_end (trim_start (before_comment line))

-- what counts of each line, at the offset of the line's first byte, where the first one begins at the
-- offset that is given
abbrev pub placed_from : ℕ → List (List ℕ) → List LineText
placed_from offset [] = []
placed_from offset (line ∷ lines) =
    record { offset = offset; text = content line }
    ∷ placed_from (offset + length line + 1) lines

abbrev pub lines_of : List ℕ → List LineText
lines_of bytes = placed_from 0 (slice_split is_newline bytes)

-- the longest front without blanks
abbrev pub first_word : List ℕ → List ℕ
first_word text = take_while is_not_blank text

-- what stands behind the first word and the blanks that follow it
abbrev pub argument : List ℕ → List ℕ
argument text = trim_start (drop (prefix_len is_not_blank text) text)

-- a block opens with a line that ends in `(`, and whose first word is neither `module` nor `go`
abbrev pub opens_block : List ℕ → Bool
opens_block text =
    ends_with nat_eq text (codes "(")
    && not (is_text (first_word text) (codes "module") || is_text (first_word text) (codes "go"))

-- it goes on up to and including a line that begins with `)`
abbrev pub closes_block : List ℕ → Bool
closes_block text = starts_with nat_eq text (codes ")")

-- the lines that stand in no block, where the first line stands in an open block or not
abbrev pub outside_blocks : Bool → List LineText → List LineText
outside_blocks in_block [] = []
outside_blocks true (line ∷ lines) = outside_blocks (not (closes_block line.text)) lines
outside_blocks false (line ∷ lines) =
    if opens_block line.text then outside_blocks true lines else line ∷ outside_blocks false lines
