use Rattle.go_report.proofs.OutlineLemmas.{declared_everywhere}
use Rattle.go_report.proofs.laws.declared_everywhere.Goals as goal

pub returns : goal.returns
returns c = declared_everywhere
