use Rattle.go_parse_s.proofs.LawLemmas.{one_fault_lem}
use Rattle.go_parse_s.proofs.laws.one_fault.Goals as goal

pub returns : goal.returns
returns c = one_fault_lem
