use Rattle.go_scan.proofs.NextLemmas.{one_next}
use Rattle.go_scan.proofs.laws.one_next.Goals as goal

pub returns : goal.returns
returns c = one_next
