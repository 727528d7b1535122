use Rattle.go_laws.proofs.NodeFileLemmas.{nodes_are_numbered}
use Rattle.go_laws.proofs.NodeNumberLemmas.{node_numbers_ascend}
use Rattle.go_laws.proofs.numbers.nodes_are_numbered.Goals as goal

pub returns : goal.returns
returns c = λ own stubs m is. nodes_are_numbered m (node_numbers_ascend own stubs m is)
