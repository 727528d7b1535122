use Rattle.go_judge.specs.Types.UnderlyingType.{under}
use Rattle.go_judge.proofs.QuestLemmas.{run-stays}
use Rattle.go_subst.proofs.laws.underlying_types_stay.Goals as goal

pub returns : goal.returns
returns c = λ known more part t. run-stays known more part (under t)
