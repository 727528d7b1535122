use Rattle.std.proofs.Common.{◌≡◌, true, sym, subst}
use Rattle.std.specs.Prelude.{◌↔◌}
use Rattle.std.proofs.lemmas.Result.{IfOk-weaker}
use Rattle.go_obligations.specs.declared.obligation.Demand.{Demand}
use Rattle.go_obligations.specs.Owed.{Fails}
use Rattle.go_obligations.proofs.obligation.fails.Goals as goal

pub returns-in-NoConstraint-clause-fails : goal.returns-in-NoConstraint-clause-fails
returns-in-NoConstraint-clause-fails g c =
    IfOk-weaker c.is_constraint.result _ _
    (λ yes is. subst (λ (d : Demand). (yes ≡ true) ↔ Fails (g.J.Ask.headers c.args.judge.now) d (g.J.Ask.tree c.args.judge.now c.args.obligation.now.ty)) (sym c.in-NoConstraint.is) is)
    c.is_constraint.ensures.constraint

pub returns-in-OneTypeEach-clause-fails : goal.returns-in-OneTypeEach-clause-fails
returns-in-OneTypeEach-clause-fails g c =
    IfOk-weaker c.gets_two.result _ _
    (λ yes is. subst (λ (d : Demand). (yes ≡ true) ↔ Fails (g.J.Ask.headers c.args.judge.now) d (g.J.Ask.tree c.args.judge.now c.args.obligation.now.ty)) (sym c.in-OneTypeEach.is) is)
    c.gets_two.ensures.two
