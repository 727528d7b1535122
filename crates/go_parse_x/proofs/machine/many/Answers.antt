use Rattle.std.proofs.Common.{sym, ◌∙◌}
use Rattle.go_parse_x.proofs.TurnLemmas.{sides_push, again_same, done_same}
use Rattle.go_parse_x.proofs.machine.many.Goals as goal

pub returns-then-has-clause-turn : goal.returns-then-has-clause-turn
returns-then-has-clause-turn c = λ bytes fs.
    rw (c.turned.ensures.turn, c.turned.ensures.next, c.in_ok-push.ensures.items, sides_push, c.requires.many) (again_same bytes c.args.seen _ _ fs c.requires.sound (sym (c.requires.set c.args.seen.token.kind) ∙ (sym c.has.ensures ∙ c.if-has.true)))

pub returns-clause-turn : goal.returns-clause-turn
returns-clause-turn c = λ bytes fs. done_same bytes c.args.seen _ _ fs c.requires.sound (sym (c.requires.set c.args.seen.token.kind) ∙ (sym c.has.ensures ∙ c.if-has.false))
