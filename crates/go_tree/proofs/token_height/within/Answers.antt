use Rattle.go_tree.proofs.HeightLemmas.{within_closes, within_separates, within_counts_on, within_counts}
use Rattle.go_tree.proofs.token_height.within.Goals as goal

pub returns-in-Closes-clause-same : goal.returns-in-Closes-clause-same
returns-in-Closes-clause-same c = λ ms. within_closes c.args.behind.count c.args.behind.closed c.args.behind.separated ms c.args.role c.requires.inside c.in-Closes.is

pub returns-in-Separates-clause-same : goal.returns-in-Separates-clause-same
returns-in-Separates-clause-same c = λ ms. within_separates c.args.behind.count c.args.behind.closed c.args.behind.separated ms c.args.role c.requires.inside c.in-Separates.is

pub returns-in-CountsOn-clause-same : goal.returns-in-CountsOn-clause-same
returns-in-CountsOn-clause-same c = λ ms. within_counts_on c.args.behind.count c.args.behind.closed c.args.behind.separated ms c.args.role c.requires.inside c.in-CountsOn.is

pub returns-in-Counts-clause-same : goal.returns-in-Counts-clause-same
returns-in-Counts-clause-same c = λ ms. within_counts c.args.behind.count c.args.behind.closed c.args.behind.separated ms c.args.role c.requires.inside c.in-Counts.is
