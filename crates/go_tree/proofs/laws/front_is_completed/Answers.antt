use Rattle.go_tree.proofs.GrammarBalance.{front_tree_lem}
use Rattle.go_tree.proofs.laws.front_is_completed.Goals as goal

pub returns : goal.returns
returns c = front_tree_lem
