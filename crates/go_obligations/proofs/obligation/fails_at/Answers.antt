use Rattle.std.proofs.Common.{sym, ◌∙◌}
use Rattle.go_obligations.proofs.AnswerLemmas.{by_its_key}
use Rattle.go_obligations.proofs.obligation.fails_at.Goals as goal

pub returns-in-Some-clause-fails : goal.returns-in-Some-clause-fails
returns-in-Some-clause-fails g c =
    let o = c.args.obligation.now in
    let right = c.requires.answers c.args.key c.in-Some.kept (sym c.get.ensures ∙ c.in-Some.is) in
    by_its_key (g.J.Ask.headers c.args.judge.now) o.demand (g.J.Ask.tree c.args.judge.now o.ty) c.args.key c.in-Some.kept c.requires.key right
