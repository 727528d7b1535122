use Rattle.go_same_laws.proofs.IdentityLemmas.{identical_on}
use Rattle.go_same_laws.proofs.laws.identity_chains.Goals as goal

pub returns : goal.returns
returns c = identical_on
