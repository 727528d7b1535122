use Rattle.go_load.proofs.OneLoadLemmas.{one_load}
use Rattle.go_load.proofs.laws.one_load.Goals as goal

pub returns : goal.returns
returns c = one_load
