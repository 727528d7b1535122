use Rattle.go_tree.proofs.GrammarSpans.{file_lem}
use Rattle.go_tree.proofs.laws.file_has_all_tokens.Goals as goal

pub returns : goal.returns
returns c = file_lem
