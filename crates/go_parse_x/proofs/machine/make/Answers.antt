use Rattle.std.proofs.Common.{◌∷◌, refl}
use Rattle.go_parse_x.proofs.TurnLemmas.{act_same, act_stuck}
use Rattle.go_parse_x.proofs.machine.make.Goals as goal

pub returns-then-made-clause-turn : goal.returns-then-made-clause-turn
returns-then-made-clause-turn c =
    let is = rw c.if-made.true at c.in-Ok.ensures.acted in
    λ gs. act_same _ c.args.seen _ gs _ _ (λ ts. is (c.args.seen.token ∷ ts) refl)

pub returns-else-made-clause-turn : goal.returns-else-made-clause-turn
returns-else-made-clause-turn c =
    let is = rw c.if-made.false at c.in-Ok.ensures.acted in
    λ gs. act_stuck _ c.args.seen _ gs _ (λ ts. is (c.args.seen.token ∷ ts))
