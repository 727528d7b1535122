use Rattle.std.proofs.lemmas.Result.{IfOk-weaker}
use Rattle.go_obligations.proofs.ConstraintLemmas.{constraint_moved}
use Rattle.go_obligations.proofs.constraint.is_constraint.Goals as goal

pub returns-clause-constraint : goal.returns-clause-constraint
returns-clause-constraint g c =
    let keeps = c.in_ok-shape.ensures.keeps in
    IfOk-weaker c.is_constraint_by.result _ _ (λ answer. constraint_moved answer keeps.same (keeps.kept.trees c.args.t.now c.requires)) c.is_constraint_by.ensures.constraint
