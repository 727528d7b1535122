-- The text of a report.
-- Decides how each line reads: a line is a list of fields, which a tab joins and a newline ends. How a place
-- reads: `Places`; a type: `Types`; a value: `TextOfValues` of go_num.
use Rattle.std.specs.Prelude.{ℕ, List, [], ◌∷◌, ◌++◌, map, codes, decimal, Option, Some, None}
use Rattle.std.specs.List.{flat_map, join_with_byte}
use Rattle.go_base.specs.Rule.{rule_text}
use Rattle.go_term.specs.Types.{TypeData}
use Rattle.go_num.specs.declared.value.Value.{Value}
use Rattle.go_judge.specs.declared.rec.Mode.{Mode}
use Rattle.go_judge.specs.declared.rec.Mode.TheVariants as M
use Rattle.go_module.specs.declared.places.At.{At}
use Rattle.go_module.specs.declared.places.Placed.{Placed}
use Rattle.go_report.specs.Report.{DefinedData, alias, constant, definition, field, function, imported, variable, WhatData, defined, used, expression, LineData, NamedData, VerdictData, accepted, refused, skipped, PackageReportData, ReportData}
use Rattle.go_report.specs.Text.Places.{place_text, end_text}
use Rattle.go_report.specs.Text.Types.{type_text}
use Rattle.go_num.specs.TextOfValues.{value_text}

-- what a name is declared as
abbrev pub kind_fields : List NamedData → DefinedData → List (List ℕ)
kind_fields objects (constant type value) = codes "const" ∷ type_text objects type ∷ value_text value ∷ []
kind_fields objects (definition type right) = codes "type" ∷ type_text objects type ∷ type_text objects right ∷ []
kind_fields objects (alias type) = codes "alias" ∷ type_text objects type ∷ []
kind_fields objects (variable type) = codes "var" ∷ type_text objects type ∷ []
kind_fields objects (field type) = codes "field" ∷ type_text objects type ∷ []
kind_fields objects (function type) = codes "func" ∷ type_text objects type ∷ []
kind_fields objects (imported path) = codes "package" ∷ path ∷ []

-- where what a name denotes is declared
abbrev pub declared_text : Option At → List ℕ
declared_text None = codes "universe"
declared_text (Some at) = place_text at

abbrev pub mode_text : Mode → List ℕ
mode_text M.NoValue = codes "novalue"
mode_text M.Builtin = codes "builtin"
mode_text M.IsType = codes "type"
mode_text M.Const = codes "const"
mode_text M.Var = codes "var"
mode_text M.MapIndex = codes "mapindex"
mode_text M.Value = codes "value"
mode_text M.Nil = codes "nil"
mode_text M.CommaOk = codes "commaok"

-- a type and a value, where there are any
abbrev pub type_fields : List NamedData → Option TypeData → List (List ℕ)
type_fields objects None = []
type_fields objects (Some type) = type_text objects type ∷ []

abbrev pub value_fields : Option Value → List (List ℕ)
value_fields None = []
value_fields (Some value) = value_text value ∷ []

-- the fields of a line at a place, where its types name these objects
abbrev pub what_fields : List NamedData → At → WhatData → List (List ℕ)
what_fields objects at (defined name kind) = codes "def" ∷ place_text at ∷ name ∷ kind_fields objects kind
what_fields objects at (used name declared) = codes "use" ∷ place_text at ∷ name ∷ declared_text declared ∷ []
what_fields objects at (expression end mode type value) = codes "expr" ∷ place_text at ∷ end_text end ∷ mode_text mode ∷ (type_fields objects type ++ value_fields value)

abbrev pub line_fields : List NamedData → LineData → List (List ℕ)
line_fields objects line = what_fields objects line.at line.what

abbrev pub broken_fields : Placed → List (List ℕ)
broken_fields placed = codes "broken" ∷ place_text placed.at ∷ rule_text placed.rule ∷ []

-- the version is the 1.N of Go's that go.mod names
abbrev pub module_fields : List ℕ → ℕ → List (List ℕ)
module_fields path version = codes "module" ∷ path ∷ (codes "1." ++ decimal version) ∷ []

abbrev pub package_fields : PackageReportData → List ℕ → List (List ℕ)
package_fields p verdict = codes "package" ∷ p.path ∷ p.name ∷ verdict ∷ []

-- the lines of a package
abbrev pub verdict_fields : PackageReportData → VerdictData → List (List (List ℕ))
verdict_fields p (accepted lines objects) = package_fields p (codes "accepted") ∷ map (line_fields objects) lines
verdict_fields p (refused list) = package_fields p (codes "refused") ∷ map broken_fields list
verdict_fields p skipped = package_fields p (codes "skipped") ∷ []

-- a report of packages, each line as its fields. That of rules which are broken before packages are checked reads as
-- `first_fields`, and `ReportOf` has none
abbrev pub report_fields : ReportData → List (List (List ℕ))
report_fields r = module_fields r.path r.version ∷ flat_map (λ p. verdict_fields p p.verdict) r.packages

-- a report of the rules of the phases before
abbrev pub first_fields : List Placed → List (List (List ℕ))
first_fields list = (codes "refused" ∷ []) ∷ map broken_fields list

abbrev pub line_text : List (List ℕ) → List ℕ
line_text fields = join_with_byte 9 fields ++ codes "\n"

abbrev pub report_text : ReportData → List ℕ
report_text r = flat_map line_text (report_fields r)

abbrev pub first_text : List Placed → List ℕ
first_text list = flat_map line_text (first_fields list)
