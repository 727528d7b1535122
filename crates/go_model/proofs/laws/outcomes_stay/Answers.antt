use Rattle.go_model.proofs.OutcomeLemmas.{outcome_stays}
use Rattle.go_model.proofs.laws.outcomes_stay.Goals as goal

pub returns : goal.returns
returns c = outcome_stays
