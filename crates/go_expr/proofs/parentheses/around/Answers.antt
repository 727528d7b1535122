use Rattle.std.proofs.Common.{◌∷◌, sym, ap, ◌∙◌, subst}
use Rattle.go_constructs.specs.Parentheses as spec
use Rattle.go_judge.specs.Judged.{Found, judged}
use Rattle.go_judge.specs.View.{outcome_as}
use Rattle.go_judge.specs.Types.Own.{IsOwnOutcome}
use Rattle.go_judge.proofs.OwnDataLemmas.{rec_copied}
use Rattle.go_expr.proofs.parentheses.around.Goals as goal

pub returns-in_ok-clone-in-Found-clause-outcome : goal.returns-in_ok-clone-in-Found-clause-outcome
returns-in_ok-clone-in-Found-clause-outcome g c = λ headers parts.
    let judge = c.args.judge.now in
    let own = g.J.Ask.is_type judge in
    let tree = g.J.Ask.tree judge in
    let given = subst (IsOwnOutcome own) c.in-Found.is c.requires in
    let copied = rec_copied own tree (g.met.J.Ask.copies judge) c.in-Found.found c.in_ok-clone-in-Found.field-0 c.in_ok-clone-in-Found.ensures.cases given in
    ap Found copied.1
    ∙ ap (λ x. judged headers spec.parentheses (x ∷ parts)) (sym (ap (outcome_as tree) c.in-Found.is))

pub returns-in_ok-clone-in-Found-clause-own : goal.returns-in_ok-clone-in-Found-clause-own
returns-in_ok-clone-in-Found-clause-own g c =
    let judge = c.args.judge.now in
    let own = g.J.Ask.is_type judge in
    let given = subst (IsOwnOutcome own) c.in-Found.is c.requires in
    (rec_copied own (g.J.Ask.tree judge) (g.met.J.Ask.copies judge) c.in-Found.found c.in_ok-clone-in-Found.field-0 c.in_ok-clone-in-Found.ensures.cases given).0
