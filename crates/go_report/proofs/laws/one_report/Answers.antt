use Rattle.go_report.proofs.OneReportLemmas.{one_report}
use Rattle.go_report.proofs.laws.one_report.Goals as goal

pub returns : goal.returns
returns c = one_report
