use Rattle.std.proofs.Common.{ℕ, Option, ap, ◌∙◌}
use Rattle.std.proofs.lemmas.Result.{IfOk-weaker}
use Rattle.go_judge.specs.Quests.{run}
use Rattle.go_judge.specs.Records.{rec_as}
use Rattle.go_constructs.specs.Operators.Sorts.{sort_in}
use Rattle.go_expr.specs.TypeLiteral.{array_outcome}
use Rattle.go_expr.proofs.ArrayLemmas.{array-found}
use Rattle.go_expr.proofs.array.of_both.Goals as goal

pub returns-in-Some-clause-outcome : goal.returns-in-Some-clause-outcome
returns-in-Some-clause-outcome g c =
    let headers = g.J.Ask.headers c.args.judge.now in
    let tree = g.J.Ask.tree c.args.judge.now in
    let n = rec_as tree c.args.length.now in
    let x = rec_as tree c.args.element.now in
    let sort = run headers (sort_in n) in
    IfOk-weaker c.of_constant.result _ _
    (λ outcome is. is ∙ ap (λ (o : Option ℕ). array_outcome headers o sort x) (c.in-Some.ensures tree) ∙ array-found headers n x)
    c.of_constant.ensures.outcome

pub returns-in-None-clause-outcome : goal.returns-in-None-clause-outcome
returns-in-None-clause-outcome g c =
    let headers = g.J.Ask.headers c.args.judge.now in
    let tree = g.J.Ask.tree c.args.judge.now in
    let n = rec_as tree c.args.length.now in
    let x = rec_as tree c.args.element.now in
    let sort = run headers (sort_in n) in
    IfOk-weaker c.broken_at.result _ _
    (λ outcome is. is ∙ ap (λ (o : Option ℕ). array_outcome headers o sort x) (c.in-None.ensures tree) ∙ array-found headers n x)
    c.broken_at.ensures.outcome
