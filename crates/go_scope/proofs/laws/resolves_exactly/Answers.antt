use Rattle.go_scope.proofs.ExactLemmas.{resolves_exactly}
use Rattle.go_scope.proofs.laws.resolves_exactly.Goals as goal

pub returns : goal.returns
returns c = resolves_exactly
