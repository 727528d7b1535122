use Rattle.std.proofs.Common.{◌∙◌, Some}
use Rattle.go_parse_x.proofs.TurnLemmas.{chosen_same, passed_by_same, asked_for}
use Rattle.go_parse_x.proofs.machine.pair.Goals as goal

pub returns-in-None-clause-turn : goal.returns-in-None-clause-turn
returns-in-None-clause-turn c = λ bytes fs gs s. (c.in-None.is, asked_for bytes c.args.seen c.args.asked _ _ gs fs s c.requires)

pub returns-then-together-clause-turn : goal.returns-then-together-clause-turn
returns-then-together-clause-turn c = λ bytes fs gs s.
    (c.in-Some.second, c.in-Some.is, chosen_same bytes c.args.seen (Some c.in-Some.second) _ _ _ gs fs s (λ ts a. c.together.ensures c.args.seen.token ts c.requires a ∙ c.if-together.true) (λ none. absurd (let z = none in cc)), asked_for bytes c.args.seen c.args.asked _ _ gs fs s c.requires)

pub returns-else-together-clause-turn : goal.returns-else-together-clause-turn
returns-else-together-clause-turn c = λ bytes fs gs s.
    (c.in-Some.second, c.in-Some.is, passed_by_same bytes c.args.seen (Some c.in-Some.second) _ _ _ gs fs s (λ ts a. c.together.ensures c.args.seen.token ts c.requires a ∙ c.if-together.false) (λ none. absurd (let z = none in cc)), asked_for bytes c.args.seen c.args.asked _ _ gs fs s c.requires)
