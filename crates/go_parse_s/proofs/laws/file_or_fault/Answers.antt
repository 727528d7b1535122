use Rattle.go_parse_s.proofs.LawLemmas.{file_or_fault_lem}
use Rattle.go_parse_s.proofs.laws.file_or_fault.Goals as goal

pub returns : goal.returns
returns c = file_or_fault_lem
