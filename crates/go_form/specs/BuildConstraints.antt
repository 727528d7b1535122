-- Comments (Go specification), and build constraints, which the go command reads.
-- Decides where build constraints stand: the line comments before the package clause that begin
-- their line, blanks aside, with `//go:build` and white space or the end of the file.
use Prim.Native.Char.{code}
use Rattle.std.specs.Prelude.{◌≡◌, ℕ, ◌+◌, ◌-◌, ◌<◌, ◌≤◌, ◌==◌, ◌&&◌, ◌||◌, ◌↔◌, nat_eq, Bool, true, false, List, ◌++◌, drop, length, slice_index, AllPairs, Contains, codes}
use Rattle.std.specs.List.{starts_with}
use Rattle.go_base.specs.Place.{is_blank}
use Rattle.go_tree.specs.Lexical.Characters.{is_white_space}
use Rattle.go_tree.specs.Lexical.Scan.{Gap}

-- the byte order mark, EF BB BF, is the first character
abbrev pub begins_with_mark : List ℕ → Bool
begins_with_mark bytes = (slice_index bytes 0 == 239) && ((slice_index bytes 1 == 187) && (slice_index bytes 2 == 191))

-- a line begins at the first byte, behind the byte order mark, and behind each newline
abbrev pub is_line_start : List ℕ → ℕ → Bool
is_line_start bytes at = (at == 0) || ((slice_index bytes (at - 1) == code "\n") || ((at == 3) && begins_with_mark bytes))

-- between the offset and the beginning of its line stand blanks alone
pub record BeginsLine (bytes : List ℕ) (at : ℕ) : Type 0 where
  pub start : ℕ
  pub behind : start ≤ at
  pub is_start : is_line_start bytes start ≡ true
  pub blanks : (k : ℕ) → start ≤ k → k < at → is_blank (slice_index bytes k) ≡ true

-- `//go:build` stands there, and behind it white space or the end of the file
abbrev pub is_build_line : List ℕ → ℕ → Bool
is_build_line bytes at = starts_with nat_eq (drop at bytes) (codes "//go:build") && ((at + 10 == length bytes) || is_white_space (slice_index bytes (at + 10)))

-- a build constraint stands at the offset: whole comments and white space lead up to it, so that it
-- stands in no comment
pub record IsBuildConstraint (bytes : List ℕ) (clause at : ℕ) : Type 0 where
  pub before : at < clause
  pub reached : Gap false bytes 0 at
  pub line : BeginsLine bytes at
  pub text : is_build_line bytes at ≡ true

-- the list of their offsets
pub record AreBuildConstraints (bytes : List ℕ) (clause : ℕ) (list : List ℕ) : Type 0 where
  pub ascending : AllPairs (λ a b. a < b) list
  pub same : (at : ℕ) → Contains list at ↔ IsBuildConstraint bytes clause at

-- a list gets their offsets behind what it has
pub record GetsBuildConstraints (bytes : List ℕ) (clause : ℕ) (old new : List ℕ) : Type 0 where
  pub list : List ℕ
  pub behind : new ≡ old ++ list
  pub are : AreBuildConstraints bytes clause list
