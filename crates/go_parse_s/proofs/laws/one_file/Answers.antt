use Rattle.go_parse_s.proofs.LawLemmas.{one_file_lem}
use Rattle.go_parse_s.proofs.laws.one_file.Goals as goal

pub returns : goal.returns
returns c = one_file_lem
