use Rattle.go_same_laws.proofs.IdentityLemmas.{identical_chains}
use Rattle.go_same_laws.proofs.laws.identity_chains_without_unions.Goals as goal

pub returns : goal.returns
returns c = identical_chains
