use Rattle.std.proofs.Common.{refl}
use Rattle.go_parse_x.proofs.TurnLemmas.{call_same}
use Rattle.go_parse_x.proofs.WeightLemmas.{call_cheaper}
use Rattle.go_parse_x.proofs.machine.call.Goals as goal

pub returns-clause-turn : goal.returns-clause-turn
returns-clause-turn c = λ bytes fs gs s.
    rw (c.turned.ensures.turn, c.turned.ensures.next, c.start.ensures) (call_same bytes c.args.seen c.args.n gs fs s (c.hands_over.ensures.no (rw c.if-hands_over.false refl)))

pub returns-clause-cheaper : goal.returns-clause-cheaper
returns-clause-cheaper c = λ gs. rw (c.turned.ensures.turn, c.turned.ensures.next, c.start.ensures) (call_cheaper c.args.n gs)
