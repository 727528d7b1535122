use Rattle.go_tree.proofs.GrammarSpans.{spans_lem}
use Rattle.go_tree.proofs.laws.nodes_have_spans.Goals as goal

pub returns : goal.returns
returns c = spans_lem
