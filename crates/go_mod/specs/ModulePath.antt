-- The module directive of go.mod (Go modules reference, "module directive").
-- Decides which lines declare the module's path, and which path.
use Prim.Native.Char.{code}
use Rattle.std.specs.Prelude.{ℕ, ◌-◌, ◌==◌, ◌&&◌, ◌||◌, not, nat_le, Bool, if◌then◌else◌}
use Rattle.std.specs.Prelude.{List, codes, length, slice_index, slice_range, Option, Some, None}
use Rattle.std.specs.List.{list_all, slice_split}
use Rattle.std.specs.Char.{is_ascii_alphanumeric}
use Rattle.go_module.specs.Modules.PathParts.{is_slash}
use Rattle.go_mod.specs.ModuleLines.{is_text, first_word, argument}

-- a letter, a digit, `-`, `.`, `_` or `~`
abbrev pub is_path_byte : ℕ → Bool
is_path_byte b =
    is_ascii_alphanumeric b || ((b == code "-") || ((b == code ".") || ((b == code "_") || (b == code "~"))))

abbrev pub is_element : List ℕ → Bool
is_element element = not (length element == 0) && list_all is_path_byte element

-- elements joined by `/`
abbrev pub is_path : List ℕ → Bool
is_path text = list_all is_element (slice_split is_slash text)

-- the text begins and ends with the quote
abbrev pub is_between : ℕ → List ℕ → Bool
is_between quote text =
    nat_le 2 (length text)
    && ((slice_index text 0 == quote) && (slice_index text (length text - 1) == quote))

-- what stands between two double quotes or two backquotes, and else the text itself
abbrev pub unquoted : List ℕ → List ℕ
unquoted text =
    if is_between (code "\"") text || is_between (code "`") text then slice_range text 1 (length text - 1) else text

-- the path of a good module line: `module`, blanks, and a path, bare or quoted
abbrev pub module_path : List ℕ → Option (List ℕ)
module_path line =
    if is_text (first_word line) (codes "module") && is_path (unquoted (argument line)) then
    Some (unquoted (argument line))
    else None
