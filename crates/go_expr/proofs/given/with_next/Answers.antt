use Rattle.std.proofs.Common.{sym, ap, ◌∙◌}
use Rattle.std.proofs.lemmas.Result.{IfOk-weaker}
use Rattle.go_expr.specs.Given.{given_as, with_one}
use Rattle.go_expr.proofs.GivenLemmas.{outcome_at-get, outcome_at-past, with_one-Nothing}
use Rattle.go_expr.proofs.given.with_next.Goals as goal

pub returns-in-Some-clause-given : goal.returns-in-Some-clause-given
returns-in-Some-clause-given g c =
    let tree = g.J.Ask.tree c.args.judge.now in
    let found = c.in-Some.ensures.lookup.3 in
    IfOk-weaker c.with_one.result _ _
    (λ next is. is ∙ ap (with_one (given_as tree c.args.given)) (sym (outcome_at-get tree c.args.outcomes.now c.args.place c.in-Some.outcome.now found.0 found.1)))
    c.with_one.ensures.given

pub returns-clause-given : goal.returns-clause-given
returns-clause-given g c =
    let tree = g.J.Ask.tree c.args.judge.now in
    let given = given_as tree c.args.given in
    sym (ap (with_one given) (outcome_at-past tree c.args.outcomes.now c.args.place c.in-None.ensures.lookup.3) ∙ with_one-Nothing given)
