use Rattle.go_model.proofs.OutcomeExactLemmas.{outcome_exactly}
use Rattle.go_model.proofs.laws.outcomes_exactly.Goals as goal

pub returns : goal.returns
returns c = outcome_exactly
