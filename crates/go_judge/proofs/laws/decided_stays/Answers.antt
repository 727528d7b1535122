use Rattle.go_judge.proofs.QuestLemmas.{run-stays}
use Rattle.go_judge.proofs.laws.decided_stays.Goals as goal

pub returns : goal.returns
returns g c = run-stays
