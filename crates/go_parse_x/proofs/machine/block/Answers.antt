use Rattle.std.proofs.Common.{sym, ◌∙◌}
use Rattle.go_tree.specs.declared.token.TokenKind.TheVariants.{LeftBrace}
use Rattle.go_tree.proofs.NestingLemmas.{same_kinds}
use Rattle.go_parse_x.proofs.TurnLemmas.{block_stuck, at_block}
use Rattle.go_parse_x.proofs.machine.block.Goals as goal

pub returns-then-same-clause-turn : goal.returns-then-same-clause-turn
returns-then-same-clause-turn c = λ bytes fs gs. rw c.requires.call (at_block c.args.seen c.args.n gs fs c.requires.block (sym (same_kinds LeftBrace c.args.seen.token.kind (sym c.same.ensures ∙ c.if-same.true))) c.requires.over)

pub returns-clause-turn : goal.returns-clause-turn
returns-clause-turn c = λ bytes fs gs. block_stuck bytes c.args.seen c.args.n gs fs c.requires.block (sym c.same.ensures ∙ c.if-same.false)
