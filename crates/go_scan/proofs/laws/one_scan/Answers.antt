use Rattle.go_scan.proofs.ScanLemmas.{one_scan}
use Rattle.go_scan.proofs.laws.one_scan.Goals as goal

pub returns : goal.returns
returns c = one_scan
