-- What the parts of a run promise each other.
use Rattle.std.specs.Prelude.{◌≡◌, ℕ, List}
use Rattle.go_base.specs.declared.status.Status.{Status}
use Rattle.go_base.specs.Status.{IsReport}
use Rattle.go_module.specs.declared.places.Placed.{Placed}
use Rattle.go_module.specs.Modules.Module.{ModuleData}
use Rattle.go_report.specs.Phases.{ReportOf}
use Rattle.go_report.specs.Report.{ReportData}
use Rattle.go_report.specs.Text.Lines.{first_text, report_text}
use Rattle.go_report.specs.Status.{refusal_of, verdict_of}

-- the text and the status of rules that are broken before packages are checked
pub record IsFirst (list : List Placed) (text : List ℕ) (status : Status) : Type 0 where
  pub text_is : text ≡ first_text list
  pub status_is : status ≡ refusal_of list
  pub is_verdict : IsReport status

-- the text and the status of the report of a module
pub record IsWhole (m : ModuleData) (text : List ℕ) (status : Status) : Type 0 where
  pub report : ReportData
  pub is_report : ReportOf m report
  pub text_is : text ≡ report_text report
  pub status_is : status ≡ verdict_of report
  pub is_verdict : IsReport status
