use Rattle.go_graph.proofs.OrderLemmas.{respects}
use Rattle.go_graph.proofs.laws.behind_edges.Goals as goal

pub returns : goal.returns
returns c = respects
