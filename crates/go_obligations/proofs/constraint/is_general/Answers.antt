use Rattle.std.proofs.lemmas.Result.{IfOk-weaker}
use Rattle.go_obligations.proofs.ConstraintLemmas.{general_moved}
use Rattle.go_obligations.proofs.constraint.is_general.Goals as goal

pub returns-clause-general : goal.returns-clause-general
returns-clause-general g c =
    let keeps = c.in_ok-shape.ensures.keeps in
    IfOk-weaker c.is_general_by.result _ _ (λ answer. general_moved answer keeps.same (keeps.kept.trees c.args.u c.requires)) c.is_general_by.ensures.general
