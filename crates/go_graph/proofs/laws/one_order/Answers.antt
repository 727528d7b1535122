use Rattle.go_graph.proofs.OrderLemmas.{unique}
use Rattle.go_graph.proofs.laws.one_order.Goals as goal

pub returns : goal.returns
returns c = unique
