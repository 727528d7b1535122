-- Tables of lines.
-- Decides what a table of the starts of a text's lines has.
use Rattle.std.specs.Prelude.{◌≡◌, ℕ, ◌+◌, ◌-◌, ◌<◌, ◌≤◌, true}
use Rattle.std.specs.Prelude.{List, count_by, length, slice_index, take}
use Rattle.go_base.specs.Place.{is_newline}

-- the line that has this many newlines before it starts there: at 0, or after a newline
pub record IsLineStart (bytes : List ℕ) (newlines start : ℕ) : Type 0 where
  pub within : start ≤ length bytes
  pub counted : count_by is_newline (take start bytes) ≡ newlines
  pub begins : 0 < start → is_newline (slice_index bytes (start - 1)) ≡ true

-- the starts of all lines that begin in the first `end` bytes, in order
pub record HasLineStarts (bytes : List ℕ) (end : ℕ) (starts : List ℕ) : Type 0 where
  pub whole : length starts ≡ count_by is_newline (take end bytes) + 1
  pub each : (k : ℕ) → k < length starts → IsLineStart bytes k (slice_index starts k)

-- the starts of all lines of a text, in order
abbrev pub AreLineStarts : List ℕ → List ℕ → Type 0
AreLineStarts text starts = HasLineStarts text (length text) starts

-- the starts up to the offset are the first n
pub record IsUpTo (starts : List ℕ) (offset n : ℕ) : Type 0 where
  pub within : n ≤ length starts
  pub below : (k : ℕ) → k < n → slice_index starts k ≤ offset
  pub above : (k : ℕ) → n ≤ k → k < length starts → offset < slice_index starts k
