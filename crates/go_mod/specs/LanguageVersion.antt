-- The go directive of go.mod (Go modules reference, "go directive").
-- Decides which lines declare a version of the language, and which versions are Go 1.21.
use Prim.Native.Char.{code}
use Rattle.std.specs.Prelude.{ℕ, ◌==◌, ◌&&◌, ◌||◌, nat_eq, nat_le, Bool, if◌then◌else◌}
use Rattle.std.specs.Prelude.{List, codes, drop, length, slice_index, Option, Some, None}
use Rattle.std.specs.List.{list_all, starts_with, prefix_len, take_while, before_first, after_first}
use Rattle.std.specs.Char.{is_ascii_digit}
use Rattle.go_mod.specs.ModuleLines.{is_text, first_word, argument}

-- `0`, or a digit from 1 to 9 and then any digits
abbrev pub is_number : List ℕ → Bool
is_number text =
    is_text text (codes "0")
    || ((nat_le (code "1") (slice_index text 0) && nat_le (slice_index text 0) (code "9")) && list_all is_ascii_digit text)

abbrev pub is_dot : ℕ → Bool
is_dot b = b == code "."

-- the first number, before the first dot
abbrev pub major : List ℕ → List ℕ
major version = before_first is_dot version

-- the second one: the digits behind that dot
abbrev pub minor : List ℕ → List ℕ
minor version = take_while is_ascii_digit (after_first is_dot version)

-- what stands behind the second number
abbrev pub behind_minor : List ℕ → List ℕ
behind_minor version =
    drop (prefix_len is_ascii_digit (after_first is_dot version)) (after_first is_dot version)

-- nothing, or `.` or `rc` and a number
abbrev pub is_patch : List ℕ → Bool
is_patch text =
    (length text == 0)
    || ((starts_with nat_eq text (codes ".") && is_number (drop 1 text))
    || (starts_with nat_eq text (codes "rc") && is_number (drop 2 text)))

-- N.N, N.N.N or N.NrcN
abbrev pub is_version : List ℕ → Bool
is_version text = is_number (major text) && (is_number (minor text) && is_patch (behind_minor text))

-- the version of a good go line: `go`, blanks, and a version
abbrev pub go_version : List ℕ → Option (List ℕ)
go_version line =
    if is_text (first_word line) (codes "go") && is_version (argument line) then Some (argument line)
    else None

-- its first two numbers are 1 and 21
abbrev pub is_1_21 : List ℕ → Bool
is_1_21 version = is_text (major version) (codes "1") && is_text (minor version) (codes "21")
