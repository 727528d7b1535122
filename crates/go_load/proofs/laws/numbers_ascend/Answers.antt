use Rattle.go_load.proofs.FileNumberLemmas.{numbers_ascend}
use Rattle.go_load.proofs.laws.numbers_ascend.Goals as goal

pub returns : goal.returns
returns c = numbers_ascend
