use Rattle.std.proofs.Common.{refl, None}
use Rattle.go_parse_x.proofs.TurnLemmas.{chosen_same, passed_by_same, alone_sure}
use Rattle.go_parse_x.proofs.machine.when.Goals as goal

pub returns-in-Some-true-clause-turn : goal.returns-in-Some-true-clause-turn
returns-in-Some-true-clause-turn c = λ bytes fs gs s.
    let is = rw c.in-Some-true.field-0-test at c.in-Some-true.ensures.some in
    rw (c.turned.ensures.turn, c.turned.ensures.next) (chosen_same bytes c.args.seen None _ _ _ gs fs s (λ ts a. is c.args.seen.token ts refl) (λ none. alone_sure c.args.asked c.args.seen.token _ _ _ is))

pub returns-in-Some-false-clause-turn : goal.returns-in-Some-false-clause-turn
returns-in-Some-false-clause-turn c = λ bytes fs gs s.
    let is = rw c.in-Some-false.field-0-test at c.in-Some-false.ensures.some in
    rw (c.turned-in-Some-false.ensures.turn, c.turned-in-Some-false.ensures.next) (passed_by_same bytes c.args.seen None _ _ _ gs fs s (λ ts a. is c.args.seen.token ts refl) (λ none. alone_sure c.args.asked c.args.seen.token _ _ _ is))
