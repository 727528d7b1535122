use Rattle.go_tree.proofs.HeightLemmas.{within_opens}
use Rattle.go_tree.proofs.token_height.opened.Goals as goal

pub returns-then-behind-gt1-clause-same : goal.returns-then-behind-gt1-clause-same
returns-then-behind-gt1-clause-same c = λ ms. within_opens c.args.behind.count c.args.behind.closed c.args.behind.separated ms c.if-behind-gt1.true
