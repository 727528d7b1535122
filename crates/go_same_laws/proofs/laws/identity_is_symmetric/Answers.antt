use Rattle.go_same_laws.proofs.IdentityLemmas.{identical_swap}
use Rattle.go_same_laws.proofs.laws.identity_is_symmetric.Goals as goal

pub returns : goal.returns
returns c = identical_swap
