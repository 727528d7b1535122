use Rattle.std.proofs.Common.{◌∙◌}
use Rattle.std.proofs.lemmas.Result.{IfOk-weaker}
use Rattle.go_obligations.proofs.ConstraintLemmas.{constraint_by_form, no_constraint}
use Rattle.go_obligations.proofs.constraint.is_constraint_by.Goals as goal

pub returns-then-parameter-clause-constraint : goal.returns-then-parameter-clause-constraint
returns-then-parameter-clause-constraint g c =
    no_constraint (g.F.Ask.headers c.args.judge.now) (g.F.Ask.tree c.args.judge.now c.args.t.now) (c.requires.parameter ∙ c.if-parameter.true)

pub returns-clause-constraint : goal.returns-clause-constraint
returns-clause-constraint g c =
    let headers = g.F.Ask.headers c.args.judge.now in
    let t = g.F.Ask.tree c.args.judge.now c.args.t.now in
    let tree = g.F.Ask.tree c.underlying.new.self in
    IfOk-weaker c.is_general_form.result _ _
    (λ answer. constraint_by_form headers t tree c.in_ok-form.form (g.F.Ask.headers c.underlying.new.self) answer (c.requires.parameter ∙ c.if-parameter.false) c.in_ok-form.ensures.keeps.same c.in_ok-form.ensures.answer)
    c.is_general_form.ensures.general
