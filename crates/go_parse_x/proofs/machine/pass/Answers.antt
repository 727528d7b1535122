use Rattle.std.proofs.Common.{sym, ◌∙◌}
use Rattle.go_parse_x.proofs.TurnLemmas.{pass_passed, pass_stuck}
use Rattle.go_parse_x.proofs.machine.pass.Goals as goal

pub returns-then-same-clause-turn : goal.returns-then-same-clause-turn
returns-then-same-clause-turn c = λ bytes fs gs. pass_passed bytes c.args.seen c.args.kind gs fs (sym c.same.ensures ∙ c.if-same.true)

pub returns-else-same-clause-turn : goal.returns-else-same-clause-turn
returns-else-same-clause-turn c = λ bytes fs gs. pass_stuck bytes c.args.seen c.args.kind gs fs (sym c.same.ensures ∙ c.if-same.false)
