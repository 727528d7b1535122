use Rattle.go_tree.proofs.GrammarBalance.{front_begins_lem}
use Rattle.go_tree.proofs.laws.front_begins.Goals as goal

pub returns : goal.returns
returns c = front_begins_lem
