use Rattle.std.proofs.Common.{◌≡◌, true, sym, subst}
use Rattle.std.proofs.lemmas.Result.{IfOk-weaker}
use Rattle.std.specs.Prelude.{◌↔◌}
use Rattle.go_judge.specs.declared.form.Form.{Form}
use Rattle.go_obligations.specs.ConstraintParts.{IsGeneralForm}
use Rattle.go_obligations.proofs.constraint.is_general_form.Goals as goal

pub returns-in-Is-clause-general : goal.returns-in-Is-clause-general
returns-in-Is-clause-general g c =
    let headers = g.F.Ask.headers c.args.judge.now in
    let tree = g.F.Ask.tree c.args.judge.now in
    IfOk-weaker c.is_general.result _ _ (λ answer is. subst (λ (f : Form). (answer ≡ true) ↔ IsGeneralForm headers tree f) (sym c.in-Is.is) is) c.is_general.ensures.general
