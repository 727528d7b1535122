use Rattle.go_same_laws.proofs.IdentityLemmas.{identical_once}
use Rattle.go_same_laws.proofs.laws.identity_is_decided_once.Goals as goal

pub returns : goal.returns
returns c = identical_once
