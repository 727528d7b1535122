use Rattle.go_scan.proofs.StringTextLemmas.{string_of_literal}
use Rattle.go_scan.proofs.laws.string_of_literal.Goals as goal

pub returns : goal.returns
returns c = string_of_literal
