use Rattle.std.proofs.Common.{sym, ◌∙◌}
use Rattle.go_tree.specs.Grammar.Tables.Prediction.{starts}
use Rattle.go_tree.specs.Grammar.Trees.Sentence.{tables}
use Rattle.go_parse_x.specs.Tables.Lines.{side}
use Rattle.go_parse_x.proofs.TurnLemmas.{left_same, right_same}
use Rattle.go_parse_x.proofs.StepLemmas.{in_set, not_in_set}
use Rattle.go_parse_x.proofs.machine.either.Goals as goal

pub returns-then-has-clause-turn : goal.returns-then-has-clause-turn
returns-then-has-clause-turn c = λ bytes fs gs s.
    rw (c.turned.ensures.turn, c.turned.ensures.next) (left_same bytes c.args.seen _ _ gs fs s (in_set c.args.set (side c.args.g) (starts tables gs) c.args.seen.token.kind c.requires.set (sym c.has.ensures ∙ c.if-has.true)))

pub returns-else-has-clause-turn : goal.returns-else-has-clause-turn
returns-else-has-clause-turn c = λ bytes fs gs s.
    rw (c.turned-else-has.ensures.turn, c.turned-else-has.ensures.next) (right_same bytes c.args.seen _ _ gs fs s (not_in_set c.args.set (side c.args.g) (starts tables gs) c.args.seen.token.kind c.requires.set c.requires.some (sym c.has.ensures ∙ c.if-has.false)))
