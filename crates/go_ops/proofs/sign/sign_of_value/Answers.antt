use Rattle.std.proofs.Common.{sym, ap, ◌∙◌}
use Rattle.std.proofs.lemmas.Result.{IfOk-weaker}
use Rattle.go_judge.specs.Records.{rec_as}
use Rattle.go_judge.specs.Quests.{Decided}
use Rattle.go_judge.proofs.OwnDataLemmas.{rec_agrees}
use Rattle.go_ops.specs.AskedSorts.{sort_as}
use Rattle.go_ops.specs.Signed.{outcome_by_operand}
use Rattle.go_ops.proofs.SignLemmas.{sign-found}
use Rattle.go_ops.proofs.SortLemmas.{sort-fits}
use Rattle.go_ops.proofs.sign.sign_of_value.Goals as goal

pub sign_of_sort-requires-clause-fits : goal.sign_of_sort-requires-clause-fits
sign_of_sort-requires-clause-fits g c =
    let x = rec_as (g.J.Ask.tree c.args.judge.now) c.args.a.now in
    sort-fits (g.J.Ask.headers c.args.judge.now) x c.in-Is.sort c.requires.honest (sym c.in_ok-sort.ensures.sort ∙ ap sort_as c.in-Is.is)

pub returns-in-Is-clause-outcome : goal.returns-in-Is-clause-outcome
returns-in-Is-clause-outcome g c =
    let old = c.args.judge.now in
    let tree = g.J.Ask.tree old in
    let x = rec_agrees (g.J.Ask.is_type old) tree (g.J.Ask.tree c.sort_in.new.judge) c.in_ok-sort.ensures.keeps.kept.trees c.args.a.now c.requires.own in
    let sort = sym (ap sort_as c.in-Is.is) ∙ c.in_ok-sort.ensures.sort in
    IfOk-weaker c.sign_of_sort.result _ _
    (λ outcome is.
    is
    ∙ (λ i. outcome_by_operand c.args.op (x i) (Decided c.in-Is.sort))
    ∙ ap (outcome_by_operand c.args.op (rec_as tree c.args.a.now)) sort
    ∙ sign-found (g.J.Ask.headers old) c.args.op (rec_as tree c.args.a.now))
    c.sign_of_sort.ensures.outcome

pub returns-in-Unknown-clause-outcome : goal.returns-in-Unknown-clause-outcome
returns-in-Unknown-clause-outcome g c =
    let old = c.args.judge.now in
    let x = rec_as (g.J.Ask.tree old) c.args.a.now in
    ap (outcome_by_operand c.args.op x) (sym (ap sort_as c.in-Unknown.is) ∙ c.in_ok-sort.ensures.sort) ∙ sign-found (g.J.Ask.headers old) c.args.op x
