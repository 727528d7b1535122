use Rattle.std.proofs.Common.{drop, map, ap, ◌∙◌}
use Rattle.std.proofs.lemmas.Result.{IfOk-weaker}
use Rattle.go_constructs.specs.declared.meaning.Meaning.TheVariants.{Other}
use Rattle.go_constructs.specs.Selector as spec
use Rattle.go_judge.specs.Judged.{judged}
use Rattle.go_judge.specs.View.{outcome_as}
use Rattle.go_expr.proofs.NodeOutcomeLemmas.{first_and_rest}
use Rattle.go_expr.proofs.selector.of_first.Goals as goal

pub returns-in-len1-up-clause-outcome : goal.returns-in-len1-up-clause-outcome
returns-in-len1-up-clause-outcome g c =
    let view = outcome_as (g.J.Ask.tree c.args.judge.now) in
    let given = c.args.outcomes.now in
    let all = first_and_rest given c.operand-item.result c.in-len1-up.len_at_least c.operand-item.is in
    IfOk-weaker c.of_value.result _ _
    (λ outcome is headers. is headers (map view (drop 1 given)) ∙ ap (λ os. judged headers (spec.selector Other) (map view os)) all)
    c.of_value.ensures.outcome
