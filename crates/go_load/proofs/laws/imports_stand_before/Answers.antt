use Rattle.go_load.proofs.ModuleLawLemmas.{stand_before}
use Rattle.go_load.proofs.laws.imports_stand_before.Goals as goal

pub returns : goal.returns
returns c = stand_before
