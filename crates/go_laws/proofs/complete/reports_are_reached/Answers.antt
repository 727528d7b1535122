use Rattle.go_laws.proofs.ReachedLemmas.{reports_are_reached}
use Rattle.go_laws.proofs.complete.reports_are_reached.Goals as goal

pub returns : goal.returns
returns c = reports_are_reached
