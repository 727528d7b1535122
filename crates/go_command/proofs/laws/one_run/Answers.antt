use Rattle.go_command.proofs.OneRunLemmas.{one_run}
use Rattle.go_command.proofs.laws.one_run.Goals as goal

pub returns : goal.returns
returns c = one_run
