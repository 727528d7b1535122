use Rattle.go_laws.proofs.ReachedLemmas.{accepted_complete}
use Rattle.go_laws.proofs.complete.accepted_is_complete.Goals as goal

pub returns : goal.returns
returns c = accepted_complete
