-- The summary of a report.
-- Decides what a summary says: of each kind of line how many there are among those of a report, or of the rules that
-- are broken before packages are checked.
use Rattle.std.specs.Prelude.{ℕ, nat_eq, Bool, false, List, [], ◌∷◌, length, map, filter, codes, decimal}
use Rattle.std.specs.Cmp.Lexicographic.{pointwise}
use Rattle.std.specs.List.{flat_map}
use Rattle.go_module.specs.declared.places.Placed.{Placed}
use Rattle.go_report.specs.Report.{ReportData}
use Rattle.go_report.specs.Text.Lines.{first_fields, line_text, report_fields}

-- the kinds of lines, in the order of the summary; the lines `module` and `refused` are of none
abbrev pub line_kinds : List (List ℕ)
line_kinds = codes "package" ∷ codes "broken" ∷ codes "def" ∷ codes "implicit" ∷ codes "use" ∷ codes "expr"
    ∷ codes "select" ∷ codes "instance" ∷ codes "init" ∷ []

-- a line of this kind begins with its word
abbrev pub is_of_kind : List ℕ → List (List ℕ) → Bool
is_of_kind kind [] = false
is_of_kind kind (first ∷ fields) = pointwise nat_eq kind first

abbrev pub count_of : List (List (List ℕ)) → List ℕ → ℕ
count_of lines kind = length (filter (is_of_kind kind) lines)

-- `count`, the kind and the number
abbrev pub summary_fields : List (List (List ℕ)) → List (List (List ℕ))
summary_fields lines = map (λ kind. codes "count" ∷ kind ∷ decimal (count_of lines kind) ∷ []) line_kinds

abbrev pub report_summary : ReportData → List ℕ
report_summary report = flat_map line_text (summary_fields (report_fields report))

abbrev pub first_summary : List Placed → List ℕ
first_summary list = flat_map line_text (summary_fields (first_fields list))
