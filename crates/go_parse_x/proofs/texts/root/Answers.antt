use Rattle.std.proofs.Common.{inr, sym}
use Rattle.go_parse_x.proofs.TextLemmas.{unfinished}
use Rattle.go_parse_x.proofs.texts.root.Goals as goal

pub returns-in-None-clause-high : goal.returns-in-None-clause-high
returns-in-None-clause-high c = inr (unfinished _ _ _ _ _ c.requires.decided (rw c.in-Ok-true.field-0-test at c.in-Ok-true.ensures.whole) (sym c.in-None.ensures.node))
