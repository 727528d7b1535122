-- Source file organization (Go specification).
-- Says what is known of a file once it is read.
use Rattle.std.specs.Prelude.{ℕ, Bool, if◌then◌else◌, List, []}
use Rattle.std.specs.Str.{is_utf8}

-- a file that is read: whether it lies below the root of stubs, its path below its root, and its bytes
pub record SourceText : Type 0 where
  pub stub : Bool
  pub path : List ℕ
  pub bytes : List ℕ

-- own: bytes as a name or a path; no text of a tree and no path of a module is not UTF-8
abbrev pub as_text : List ℕ → List ℕ
as_text bytes = if is_utf8 bytes then bytes else []
