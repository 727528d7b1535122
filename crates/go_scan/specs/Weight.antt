-- The measure of a scan.
-- Says how much is left from an offset on: each token but the end leaves less, also the semicolon
-- that is inserted at the end of the file and has no byte.
use Rattle.std.specs.Prelude.{ℕ, ◌+◌, ◌-◌, ◌*◌, Option, if◌then◌else◌}
use Rattle.go_tree.specs.declared.token.TokenKind.{TokenKind}
use Rattle.go_tree.specs.Lexical.Semicolons.{inserts_after}

-- `len` is the length of the text in bytes
abbrev pub scan_weight : ℕ → ℕ → Option TokenKind → ℕ
scan_weight len at last = 2 * (len - at) + (if inserts_after last then 1 else 0)
