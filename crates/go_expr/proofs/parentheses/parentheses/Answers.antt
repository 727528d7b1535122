use Rattle.std.proofs.Common.{drop, map, sym, ap, ◌∙◌, subst}
use Rattle.std.specs.List.{AllByRecursion}
use Rattle.std.proofs.lemmas.Result.{IfOk-weaker}
use Rattle.go_constructs.specs.Parentheses as spec
use Rattle.go_judge.specs.Judged.{judged}
use Rattle.go_judge.specs.View.{outcome_as}
use Rattle.go_judge.specs.Types.Own.{IsOwnOutcome}
use Rattle.go_expr.proofs.NodeOutcomeLemmas.{first_and_rest}
use Rattle.go_expr.proofs.parentheses.parentheses.Goals as goal

pub around-requires : goal.around-requires
around-requires g c =
    let all = first_and_rest c.args.outcomes.now c.part-item.result c.in-len1-up.len_at_least c.part-item.is in
    (subst (AllByRecursion (IsOwnOutcome (g.J.Ask.is_type c.args.judge.now))) (sym all) c.requires).0

pub returns-in-len1-up-clause-outcome : goal.returns-in-len1-up-clause-outcome
returns-in-len1-up-clause-outcome g c =
    let view = outcome_as (g.J.Ask.tree c.args.judge.now) in
    let given = c.args.outcomes.now in
    let all = first_and_rest given c.part-item.result c.in-len1-up.len_at_least c.part-item.is in
    IfOk-weaker c.around.result _ _
    (λ outcome is headers. is headers (map view (drop 1 given)) ∙ ap (λ os. judged headers spec.parentheses (map view os)) all)
    c.around.ensures.outcome
