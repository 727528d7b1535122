use Rattle.go_values.proofs.HeaderLemmas.{Known-same}
use Rattle.go_values.proofs.laws.one_header.Goals as goal

pub returns : goal.returns
returns c = Known-same
