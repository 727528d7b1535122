-- What is known while the packages of a module are checked, one after another.
use Rattle.std.specs.Prelude.{◌≡◌, ℕ, Bool, true, List, [], ◌++◌, drop, length, map}
use Rattle.go_judge.specs.Headers.{Headers}
use Rattle.go_module.specs.declared.module.Module.{Module}
use Rattle.go_module.specs.Modules.Module.{ModuleData, module_view}
use Rattle.go_graph.specs.Graph.{is_marked}
use Rattle.go_report.specs.Phases.{AreReports, no_headers}
use Rattle.go_report.specs.Report.{PackageReportData, package_view}
use Rattle.go_judge.specs.HeadersView.{headers_view}
use Rattle.go_constructs.specs.Operators.Honest.{AreHonest}
use Rattle.go_check.specs.declared.module.State.{State}
use Rattle.go_check.specs.declared.names.Names.{Names}
use Rattle.go_check.specs.Packages.Names.{sound_at}

-- what is known behind the packages that are checked: which are accepted, the headers, and the reports
pub record StateData : Type 0 where
  pub marks : List Bool
  pub before : Headers
  pub reports : List PackageReportData

abbrev pub state_view : State → StateData
state_view s = record { marks = s.marks.items; before = headers_view s.book.judge.headers; reports = map package_view s.reports.items }

-- the names of each package that is accepted break no rule
abbrev pub AcceptedAreSound : Names → List Bool → Type 0
AcceptedAreSound names marks = (q : ℕ) → is_marked marks q ≡ true → sound_at names.verdicts.items q ≡ true

-- the reports so far, with those of the packages left, are those of the module
abbrev pub IsFront : ModuleData → ℕ → StateData → Type 0
IsFront m k s = (rest : List PackageReportData) → AreReports m k s.marks s.before (drop k m.packages) rest → AreReports m 0 [] no_headers m.packages (s.reports ++ rest)

-- the packages before the place k are checked, by a rulebook over the module and these scopes; each constant that is known
-- is represented by its type
pub record IsState («module» : Module) (names : Names) (k : ℕ) (s : State) : Type 0 where
  pub marked : length s.marks.items ≡ k
  pub accepted_sound : AcceptedAreSound names s.marks.items
  pub front : IsFront (module_view «module») k (state_view s)
  pub over : s.book.judge.«module».now ≡ «module»
  pub scopes : s.book.judge.scopes.now ≡ names.scopes.items
  pub same : headers_view s.known ≡ headers_view s.book.judge.headers
  pub honest : AreHonest (headers_view s.book.judge.headers)
