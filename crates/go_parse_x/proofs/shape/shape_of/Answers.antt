use Rattle.std.proofs.Common.{◌+◌}
use Rattle.go_parse_x.specs.Tables.Lines.{side_at}
use Rattle.go_parse_x.proofs.LeadLemmas.{filled, set_right}
use Rattle.go_parse_x.proofs.shape.shape_of.Goals as goal

pub returns-in-Or-clause-led : goal.returns-in-Or-clause-led
returns-in-Or-clause-led c = rw c.behind-in-Or.ensures (filled c.in-Or.set (side_at c.args.place.now.0 (c.args.place.now.1 + 1 + 0)) (rw c.in-Or.is at c.requires.led))

pub returns-in-Many-clause-led : goal.returns-in-Many-clause-led
returns-in-Many-clause-led c = rw c.behind-in-Many.ensures (set_right c.in-Many.set (side_at c.args.place.now.0 (c.args.place.now.1 + 1 + 0)) (rw c.in-Many.is at c.requires.led))
