use Rattle.std.proofs.Common.{◌≡◌, map, sym, ap, ◌∙◌, subst}
use Rattle.std.specs.List.{AllByRecursion, range_with_len}
use Rattle.go_constructs.specs.Operators.Honest.{IsHonest}
use Rattle.go_judge.specs.Judged.{together}
use Rattle.go_judge.specs.View.{outcome_as}
use Rattle.go_expr.specs.Given.{first_outcomes, given_as, recs_as}
use Rattle.go_expr.specs.declared.given.Given.TheVariants.{All}
use Rattle.go_expr.proofs.HonestLemmas.{AreHonestOperands, together-honest}
use Rattle.go_expr.proofs.operator.unary_operator.Goals as goal

pub unary_of_records-requires-clause-honest : goal.unary_of_records-requires-clause-honest
unary_of_records-requires-clause-honest g c =
    let headers = g.J.Ask.headers c.args.judge.now in
    let tree = g.J.Ask.tree c.args.judge.now in
    let given : given_as tree (All c.in-All.recs) ≡ together (first_outcomes tree c.args.outcomes.now 1) = ap (given_as tree) (sym c.in-All.is) ∙ c.in_ok-recs.ensures.given in
    subst (λ recs. AllByRecursion (IsHonest headers) (recs_as tree recs)) (sym c.deref.ensures.value)
    (subst (AreHonestOperands headers) (sym given) (together-honest headers (map (outcome_as tree) c.args.outcomes.now) c.requires.honest (range_with_len 0 1)))
