use Rattle.go_term.proofs.SubstLemmas.{subst_none}
use Rattle.go_subst.proofs.laws.substitution_of_nothing.Goals as goal

pub returns : goal.returns
returns c = subst_none
