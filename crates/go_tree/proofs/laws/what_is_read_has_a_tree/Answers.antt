use Rattle.go_tree.proofs.GrammarBalance.{tree_lem}
use Rattle.go_tree.proofs.laws.what_is_read_has_a_tree.Goals as goal

pub returns : goal.returns
returns c = tree_lem
