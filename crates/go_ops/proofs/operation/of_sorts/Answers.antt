use Rattle.std.proofs.Common.{◌≡◌, true, false, sym, ◌∙◌}
use Rattle.std.proofs.lemmas.Result.{IfOk-weaker}
use Rattle.go_module.specs.Rules.{unbuilt_form}
use Rattle.go_judge.specs.Records.{rec_as}
use Rattle.go_constructs.specs.Operators.Operations.{is_built}
use Rattle.go_ops.specs.Refusals.{by_whole}
use Rattle.go_ops.specs.Stages.{built_outcome, second_outcome}
use Rattle.go_ops.proofs.operation.of_sorts.Goals as goal

pub returns-then-is_built-clause-outcome : goal.returns-then-is_built-clause-outcome
unfolding second_outcome
returns-then-is_built-clause-outcome g c =
    let old = c.args.judge.now in
    let headers = g.J.Ask.headers old in
    let tree = g.J.Ask.tree old in
    let x = rec_as tree c.args.x.now in
    let y = rec_as tree c.args.y.now in
    let built : true ≡ is_built y c.args.t = sym c.if-is_built.true ∙ c.is_built.ensures in
    IfOk-weaker c.of_built.result _ _
    (λ outcome is. is ∙ (λ i. by_whole unbuilt_form (built i) (built_outcome headers c.args.op x y c.args.s c.args.t)))
    c.of_built.ensures.outcome

pub returns-else-is_built-clause-outcome : goal.returns-else-is_built-clause-outcome
unfolding second_outcome
returns-else-is_built-clause-outcome g c =
    let old = c.args.judge.now in
    let headers = g.J.Ask.headers old in
    let tree = g.J.Ask.tree old in
    let x = rec_as tree c.args.x.now in
    let y = rec_as tree c.args.y.now in
    let unbuilt : false ≡ is_built y c.args.t = sym c.if-is_built.false ∙ c.is_built.ensures in
    IfOk-weaker c.broken.result _ _
    (λ outcome is. is ∙ (λ i. by_whole unbuilt_form (unbuilt i) (built_outcome headers c.args.op x y c.args.s c.args.t)))
    c.broken.ensures.outcome
