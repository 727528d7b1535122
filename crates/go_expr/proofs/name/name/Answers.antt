use Rattle.std.proofs.Common.{sym, ap, ◌∙◌}
use Rattle.std.proofs.lemmas.Result.{IfOk-weaker}
use Rattle.go_constructs.specs.declared.meaning.Meaning.TheVariants.{Declared, Iota}
use Rattle.go_constructs.specs.Name as spec
use Rattle.go_judge.specs.Judged.{judged}
use Rattle.go_expr.proofs.name.name.Goals as goal

pub returns-in_ok-header-in-Declared-clause-outcome : goal.returns-in_ok-header-in-Declared-clause-outcome
returns-in_ok-header-in-Declared-clause-outcome g c = IfOk-weaker c.declared.result _ _
    (λ outcome is parts.
    is parts
    ∙ ap (λ h. judged (λ _. h) (spec.name (Declared c.in-Declared.d)) parts) c.in_ok-header-in-Declared.ensures.answer
    ∙ ap (λ m. judged (g.J.Ask.headers c.args.judge.now) (spec.name m) parts) (sym c.in-Declared.is))
    c.declared.ensures.outcome

pub returns-in-Iota-clause-outcome : goal.returns-in-Iota-clause-outcome
returns-in-Iota-clause-outcome g c = IfOk-weaker c.iota.result _ _
    (λ outcome is parts.
    is (g.J.Ask.headers c.args.judge.now) parts
    ∙ ap (λ m. judged (g.J.Ask.headers c.args.judge.now) (spec.name m) parts) (sym c.in-Iota.is))
    c.iota.ensures.outcome
