use Rattle.std.proofs.Common.{sym, subst}
use Rattle.std.proofs.lemmas.Result.{IfOk-weaker}
use Rattle.go_judge.specs.Records.{rec_as}
use Rattle.go_constructs.specs.Operators.Honest.{GivesHonest}
use Rattle.go_ops.proofs.HonestLemmas.{unary-honest}
use Rattle.go_ops.proofs.unary_expr.unary.Goals as goal

pub returns-clause-honest : goal.returns-clause-honest
returns-clause-honest g c =
    let headers = g.J.Ask.headers c.args.judge.now in
    let x = rec_as (g.J.Ask.tree c.args.judge.now) c.args.a.now in
    IfOk-weaker c.by_operator.result _ _
    (λ outcome is. subst (GivesHonest headers) (sym is) (unary-honest headers c.in-Some.op c.args.literal x c.requires.honest_first))
    c.by_operator.ensures.outcome
