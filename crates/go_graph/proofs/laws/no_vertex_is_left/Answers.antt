use Rattle.go_graph.proofs.OrderLemmas.{has_all}
use Rattle.go_graph.proofs.laws.no_vertex_is_left.Goals as goal

pub returns : goal.returns
returns c = has_all
