use Rattle.go_tree.proofs.SentenceLemmas.{one_tree_lem}
use Rattle.go_tree.proofs.laws.one_tree.Goals as goal

pub returns : goal.returns
returns c = one_tree_lem
