use Rattle.go_judge.proofs.ExactWaitLemmas.{judged_exactly}
use Rattle.go_judge.proofs.laws.judged_exactly.Goals as goal

pub returns : goal.returns
returns g c = judged_exactly
