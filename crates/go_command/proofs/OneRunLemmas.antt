-- Two runs over the same roots have one text and one status.
use Rattle.std.proofs.Common.{◌≡◌, ℕ, List, Some, ap, subst}
use Rattle.go_base.specs.declared.status.Status.{Status}
use Rattle.go_base.specs.declared.tree.MemFile.{MemFile}
use Rattle.go_load.proofs.OneLoadLemmas.{one_load}
use Rattle.go_report.proofs.OneReportLemmas.{one_report}
use Rattle.go_report.specs.Phases.{ReportOf}
use Rattle.go_report.specs.Report.{ReportData}
use Rattle.go_report.specs.Status.{refusal_of, verdict_of}
use Rattle.go_report.specs.Text.Lines.{first_text, report_text}
use Rattle.go_module.specs.Modules.Module.{ModuleData}
use Rattle.go_command.specs.Headline.{RunOf, first, whole}
use Rattle.go_command.specs.Words.{Roots}

-- the reports of two modules that are one
same_report : (m n : ModuleData) (a b : ReportData) → m ≡ n → ReportOf m a → ReportOf n b → a ≡ b
same_report m n a b e i j = one_report n a b (subst (λ (o : ModuleData). ReportOf o a) e i) j

pub one_run : (files : List MemFile) (roots : Roots) (text other : List ℕ) (status verdict : Status) → RunOf (Some files) roots text status → RunOf (Some files) roots other verdict → (text ≡ other) × (status ≡ verdict)
one_run files roots text other status verdict (first list f) (first others g) =
    let e = (one_load files roots.root roots.stubs).one_list list others f g in (ap first_text e, ap refusal_of e)
one_run files roots text other status verdict (first list f) (whole m report g i) =
    absurd ((one_load files roots.root roots.stubs).not_both m list g f)
one_run files roots text other status verdict (whole m report f i) (first list g) =
    absurd ((one_load files roots.root roots.stubs).not_both m list f g)
one_run files roots text other status verdict (whole m report f i) (whole n others g j) =
    let e = same_report m n report others ((one_load files roots.root roots.stubs).one_module m n f g) i j in (ap report_text e, ap verdict_of e)
