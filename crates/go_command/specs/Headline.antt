-- What a run writes.
-- Decides, for the roots that the words name and for a tree, the text that a run adds to its sink and the status
-- that it ends with.
use Rattle.std.specs.Prelude.{◌≡◌, ℕ, ◌⊎◌, List, [], ◌++◌, Option}
use Rattle.go_base.specs.declared.status.Status.{Status}
use Rattle.go_base.specs.declared.tree.MemFile.{MemFile}
use Rattle.go_base.specs.Status.{IsReport}
use Rattle.go_base.specs.Sink.{Adds}
use Rattle.go_module.specs.declared.places.Placed.{Placed}
use Rattle.go_load.specs.Loading.{LoadsBroken, LoadsModule}
use Rattle.go_module.specs.Modules.Module.{ModuleData}
use Rattle.go_report.specs.Phases.{ReportOf}
use Rattle.go_report.specs.Report.{ReportData}
use Rattle.go_report.specs.Status.{refusal_of, verdict_of}
use Rattle.go_report.specs.Text.Lines.{first_text, report_text}
use Rattle.go_command.specs.Words.{Roots}

-- the text and the status of a run that writes its text whole: those of the rules of the first phase of loading that breaks any, or else
-- those of the report of the module that is loaded
pub data RunOf (told : Option (List MemFile)) (roots : Roots) : List ℕ → Status → Type 0 where
  first : (list : List Placed) → LoadsBroken told roots.root roots.stubs list
      → RunOf told roots (first_text list) (refusal_of list)
  whole : (m : ModuleData) (report : ReportData) → LoadsModule told roots.root roots.stubs m → ReportOf m report
      → RunOf told roots (report_text report) (verdict_of report)

-- the text and the status of a run, which is one after which a report was written
pub record IsRunText (told : Option (List MemFile)) (roots : Roots) (text : List ℕ) (status : Status) : Type 0 where
  pub is_run : RunOf told roots text status
  pub is_verdict : IsReport status

-- the text of the run was written whole, and it ends with this status
pub record WritesReport (told : Option (List MemFile)) (roots : Roots) (status : Status) (old new : Option (List ℕ)) : Type 0 where
  pub text : List ℕ
  pub is_run : RunOf told roots text status
  pub adds : Adds old new text

-- the text is a front of that of the run
pub record IsReportFront (told : Option (List MemFile)) (roots : Roots) (text : List ℕ) : Type 0 where
  pub back : List ℕ
  pub status : Status
  pub is_run : RunOf told roots (text ++ back) status

-- nothing was written, or a front of the text of the run
pub record WritesFront (told : Option (List MemFile)) (roots : Roots) (old new : Option (List ℕ)) : Type 0 where
  pub text : List ℕ
  pub front : (text ≡ []) ⊎ IsReportFront told roots text
  pub adds : Adds old new text
