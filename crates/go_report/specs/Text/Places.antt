-- The text of a place.
-- Decides how a place of a report reads.
use Rattle.std.specs.Prelude.{ℕ, Bool, true, false, List, [], ◌++◌, codes, decimal}
use Rattle.go_base.specs.declared.places.LineCol.{LineCol}
use Rattle.go_module.specs.declared.places.At.{At}

-- `line:col`, both from 1
abbrev pub line_col : ℕ → ℕ → List ℕ
line_col line col = decimal line ++ (codes ":" ++ decimal col)

-- below the root of stubs
abbrev pub root_text : Bool → List ℕ
root_text true = codes "stub:"
root_text false = []

-- `file:line:col`, the file relative to its root
abbrev pub place_text : At → List ℕ
place_text at = root_text at.stub ++ (at.file ++ (codes ":" ++ line_col at.line at.col))

abbrev pub end_text : LineCol → List ℕ
end_text end = line_col end.line end.col
