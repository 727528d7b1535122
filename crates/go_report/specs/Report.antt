-- The report of a module, as plain data.
-- Says what a report has, and what the values of the program stand for. Which report a module has: `Phases`. How it
-- reads: `Text`.
use Rattle.std.specs.Prelude.{ℕ, Bool, List, Option, map}
use Rattle.std.specs.Option.{option_map}
use Rattle.go_base.specs.declared.ids.ObjId.{ObjId}
use Rattle.go_base.specs.declared.places.LineCol.{LineCol}
use Rattle.go_num.specs.declared.value.Value.{Value}
use Rattle.go_term.specs.Types.{TypeData}
use Rattle.go_term.specs.View.{type_of}
use Rattle.go_module.specs.declared.places.At.{At}
use Rattle.go_module.specs.declared.places.Placed.{Placed}
use Rattle.go_report.specs.declared.lines.DefKind.{DefKind}
use Rattle.go_report.specs.declared.lines.DefKind.TheVariants.{Alias, Const, Defined, Field, Func, Package, Var}
use Rattle.go_report.specs.declared.lines.Line.{Line}
use Rattle.go_report.specs.declared.lines.NamedObject.{NamedObject}
use Rattle.go_report.specs.declared.lines.What.{What}
use Rattle.go_report.specs.declared.lines.What.TheVariants.{Def, Used, Expr}
use Rattle.go_judge.specs.declared.rec.Mode.{Mode}
use Rattle.go_report.specs.declared.report.PackageReport.{PackageReport}
use Rattle.go_report.specs.declared.report.Report.{Report}
use Rattle.go_report.specs.declared.report.Verdict.{Verdict}
use Rattle.go_report.specs.declared.report.Verdict.TheVariants.{Accepted, Refused, Skipped}

-- what a name is declared as
pub data DefinedData : Type 0 where
  -- a constant: its type and its value
  constant : TypeData → Value → DefinedData
  -- a defined type, and what stands behind its name; an alias: the type for which it stands
  definition : TypeData → TypeData → DefinedData
  alias : TypeData → DefinedData
  -- a variable, a parameter or a result; a field; a method of an interface: its type
  variable field function : TypeData → DefinedData
  -- the name of a package: its path
  imported : List ℕ → DefinedData

-- what a line says: a name, and what it is declared as; a name, and where what it denotes is declared, none in the
-- universe; where an expression ends, and its record
pub data WhatData : Type 0 where
  defined : List ℕ → DefinedData → WhatData
  used : List ℕ → Option At → WhatData
  expression : LineCol → Mode → Option TypeData → Option Value → WhatData

pub record LineData : Type 0 where
  pub at : At
  pub what : WhatData

-- an object that a type names: the path of its package, its name and its place, none of a universe name; whether it is
-- declared in a function; the names of its type parameters
pub record NamedData : Type 0 where
  pub object : ObjId
  pub path : List ℕ
  pub name : List ℕ
  pub at : Option At
  pub local : Bool
  pub params : List (List ℕ)

-- what is said of a package: its lines, and the objects that their types name; the rules that it breaks; or nothing,
-- since a package that it imports is not accepted
pub data VerdictData : Type 0 where
  accepted : List LineData → List NamedData → VerdictData
  refused : List Placed → VerdictData
  skipped : VerdictData

pub record PackageReportData : Type 0 where
  pub path : List ℕ
  pub name : List ℕ
  pub verdict : VerdictData

-- the rules of the phases before packages are checked, or else a report of each package
pub record ReportData : Type 0 where
  pub path : List ℕ
  pub version : ℕ
  pub first : List Placed
  pub packages : List PackageReportData

-- what the values of the program stand for
abbrev pub defined_view : DefKind → DefinedData
defined_view (Const type value) = constant (type_of type) value
defined_view (Defined type right) = definition (type_of type) (type_of right)
defined_view (Alias type) = alias (type_of type)
defined_view (Var type) = variable (type_of type)
defined_view (Field type) = field (type_of type)
defined_view (Func type) = function (type_of type)
defined_view (Package path) = imported path

abbrev pub what_view : What → WhatData
what_view (Def name kind) = defined name (defined_view kind)
what_view (Used name declared) = used name declared
what_view (Expr end mode type value) = expression end mode (option_map type_of type) value

abbrev pub line_view : Line → LineData
line_view line = record { at = line.at; what = what_view line.what }

abbrev pub named_view : NamedObject → NamedData
named_view n = record { object = n.object; path = n.path; name = n.name; at = n.at; local = n.local; params = n.params.items }

abbrev pub verdict_view : Verdict → VerdictData
verdict_view (Accepted records) = accepted (map line_view records.lines.items) (map named_view records.named.items)
verdict_view (Refused list) = refused list.items
verdict_view Skipped = skipped

abbrev pub package_view : PackageReport → PackageReportData
package_view p = record { path = p.path; name = p.name; verdict = verdict_view p.verdict }

abbrev pub report_view : Report → ReportData
report_view r = record { path = r.path; version = r.version; first = r.first.items; packages = map package_view r.packages.items }
