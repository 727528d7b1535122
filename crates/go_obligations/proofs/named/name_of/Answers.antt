use Rattle.std.proofs.Common.{sym}
use Rattle.go_obligations.proofs.LayerLemmas.{name-stands}
use Rattle.go_obligations.proofs.named.name_of.Goals as goal

pub returns-clause-name : goal.returns-clause-name
returns-clause-name g c =
    name-stands (g.F.Ask.tree c.see.new.self) c.in_ok-shape.shape c.name_in.result (g.F.Ask.tree c.args.judge.now c.args.t.now) c.name_in.ensures (sym c.in_ok-shape.ensures.shape)
