use Rattle.go_same_laws.proofs.IdentityLemmas.{identical_itself}
use Rattle.go_same_laws.proofs.laws.identity_is_reflexive.Goals as goal

pub returns : goal.returns
returns c = identical_itself
