use Rattle.std.proofs.Common.{sym, subst}
use Rattle.std.proofs.lemmas.Result.{IfOk-weaker}
use Rattle.go_judge.specs.Records.{rec_as}
use Rattle.go_constructs.specs.Operators.Honest.{GivesHonest}
use Rattle.go_ops.proofs.HonestLemmas.{binary-honest}
use Rattle.go_ops.proofs.binary_expr.binary.Goals as goal

pub returns-clause-honest : goal.returns-clause-honest
returns-clause-honest g c =
    let headers = g.J.Ask.headers c.args.judge.now in
    let tree = g.J.Ask.tree c.args.judge.now in
    let x = rec_as tree c.args.a.now in
    let y = rec_as tree c.args.b.now in
    IfOk-weaker c.by_operator.result _ _
    (λ outcome is. subst (GivesHonest headers) (sym is) (binary-honest headers c.in-Some.op x y c.requires.honest_first c.requires.honest_second))
    c.by_operator.ensures.outcome
