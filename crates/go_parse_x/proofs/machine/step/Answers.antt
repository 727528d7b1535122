use Rattle.go_parse_x.specs.Tables.Lines.{side}
use Rattle.go_parse_x.proofs.StepLemmas.{nothing_turn}
use Rattle.go_parse_x.proofs.machine.step.Goals as goal

pub returns-in-Nothing-clause-turn : goal.returns-in-Nothing-clause-turn
returns-in-Nothing-clause-turn c =
    let is = rw c.in-Nothing.is at c.shape_at.ensures.side in
    nothing_turn _ c.args.seen (side c.args.place) _ _ is c.requires
