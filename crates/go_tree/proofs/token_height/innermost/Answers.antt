use Rattle.go_tree.proofs.HeightLemmas.{innermost_separates}
use Rattle.go_tree.proofs.token_height.innermost.Goals as goal

pub returns-in-Separates-clause-same : goal.returns-in-Separates-clause-same
returns-in-Separates-clause-same c = λ ms. innermost_separates c.args.behind.count c.args.behind.closed c.args.behind.separated ms c.args.role c.requires.outside c.in-Separates.is
