use Rattle.std.proofs.Common.{sym, ap, ◌∙◌}
use Rattle.std.proofs.lemmas.Result.{IfOk-weaker}
use Rattle.go_ops.specs.AskedSorts.{sort_asked}
use Rattle.go_constructs.specs.Operators.Sorts.{sort_found}
use Rattle.go_ops.proofs.AskedLemmas.{under-asked}
use Rattle.go_ops.proofs.sorts.sort_of.Goals as goal

pub returns-clause-sort : goal.returns-clause-sort
returns-clause-sort g c =
    let whole = under-asked (g.F.Ask.headers c.args.judge.now) (g.F.Ask.tree c.args.judge.now c.args.t.now) sort_found in
    IfOk-weaker c.sort_of_form.result _ _ (λ sort is. is ∙ ap sort_asked c.in_ok-form.ensures.answer ∙ sym whole) c.sort_of_form.ensures.sort
