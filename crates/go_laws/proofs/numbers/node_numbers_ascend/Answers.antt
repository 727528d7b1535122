use Rattle.go_laws.proofs.NodeNumberLemmas.{node_numbers_ascend}
use Rattle.go_laws.proofs.numbers.node_numbers_ascend.Goals as goal

pub returns : goal.returns
returns c = node_numbers_ascend
