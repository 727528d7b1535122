-- Places in a text (Go specification, "Source code representation").
-- Decides the line and the column of a place, both counted from 1, the column in bytes.
use Prim.Native.Char.{code}
use Rattle.std.specs.Prelude.{ℕ, Bool, ◌+◌, ◌==◌, ◌||◌, List, length, take, count_by}
use Rattle.std.specs.List.{after_last}

abbrev pub is_newline : ℕ → Bool
is_newline byte = byte == code "\n"

-- a blank: white space that ends no line, which is a space, a tab or a carriage return
abbrev pub is_blank : ℕ → Bool
is_blank byte = (byte == code " ") || ((byte == code "\t") || (byte == code "\r"))

-- one more than the newlines before the offset
abbrev pub line_of : List ℕ → ℕ → ℕ
line_of bytes offset = count_by is_newline (take offset bytes) + 1

-- one more than the bytes since the last newline before the offset, or since the start of the text
abbrev pub column_of : List ℕ → ℕ → ℕ
column_of bytes offset = length (after_last is_newline (take offset bytes)) + 1
