use Rattle.go_judge.specs.Types.TypeIdentity.{identical}
use Rattle.go_judge.proofs.QuestLemmas.{run-stays}
use Rattle.go_same_laws.proofs.laws.identity_stays.Goals as goal

pub returns : goal.returns
returns c = λ known more part a b. run-stays known more part (identical a b)
