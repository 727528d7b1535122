use Rattle.std.proofs.Common.{◌≡◌, ◌&&◌, true, false, sym, ◌∙◌}
use Rattle.std.proofs.lemmas.Result.{IfOk-weaker}
use Rattle.go_judge.specs.Records.{rec_as}
use Rattle.go_judge.specs.View.{outcome_as}
use Rattle.go_constructs.specs.Operators.Comparisons.{is_constant_or_no_value}
use Rattle.go_ops.proofs.ComparisonLemmas.{comparison-told}
use Rattle.go_ops.proofs.comparison.comparison.Goals as goal

pub returns-then-are_built-clause-outcome : goal.returns-then-are_built-clause-outcome
returns-then-are_built-clause-outcome g c =
    let old = c.args.judge.now in
    let headers = g.J.Ask.headers old in
    let tree = g.J.Ask.tree old in
    let x = rec_as tree c.args.x.now in
    let y = rec_as tree c.args.y.now in
    let built : true ≡ (is_constant_or_no_value x && is_constant_or_no_value y) = sym c.if-are_built.true ∙ c.are_built.ensures in
    IfOk-weaker c.of_built.result _ _
    (λ outcome. comparison-told headers c.args.op x y true (outcome_as (g.J.Ask.tree c.of_built.new.judge) outcome) built)
    c.of_built.ensures.outcome

pub returns-else-are_built-clause-outcome : goal.returns-else-are_built-clause-outcome
returns-else-are_built-clause-outcome g c =
    let old = c.args.judge.now in
    let headers = g.J.Ask.headers old in
    let tree = g.J.Ask.tree old in
    let x = rec_as tree c.args.x.now in
    let y = rec_as tree c.args.y.now in
    let unbuilt : false ≡ (is_constant_or_no_value x && is_constant_or_no_value y) = sym c.if-are_built.false ∙ c.are_built.ensures in
    IfOk-weaker c.broken.result _ _
    (λ outcome. comparison-told headers c.args.op x y false (outcome_as tree outcome) unbuilt)
    c.broken.ensures.outcome
