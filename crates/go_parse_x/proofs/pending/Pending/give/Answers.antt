use Rattle.std.proofs.Common.{◌≡◌, refl, sym}
use Rattle.go_parse_x.specs.Tables.Lines.{sides}
use Rattle.go_parse_x.specs.Tables.Opened.{frames, numbers, tree_without}
use Rattle.go_parse_x.specs.Pieces.{open_view}
use Rattle.go_parse_x.proofs.GiveLemmas.{given_open}
use Rattle.go_parse_x.proofs.PieceLemmas.{piece_is}
use Rattle.go_parse_x.proofs.TurnLemmas.{sides_popped}
use Rattle.go_parse_x.proofs.pending.Pending.give.Goals as goal

pub returns-clause-ready : goal.returns-clause-ready
returns-clause-ready c = λ front low r.
    let v = open_view c.args.self.now in
    let stack = sides_popped _ _ _ c.in-Some.ensures.items in
    let rest : sides c.pop.new.self.items ≡ r.awaits.rest = let q = sym stack in let w = r.awaits.block in cc in
    let o = given_open _ v (piece_is c.args.self.now.reading) front low r.number r.spot.at r.spot.last r.awaits (tree_without c.args.block) r.tokens c.args.cursor.now.at c.args.cursor.now.last r.stand r.tree r.fits (sides c.pop.new.self.items) rest (frames c.add.new.opened.items) c.in_ok-add.ensures.nodes c.block.new.self (numbers c.add.new.opened.items) c.args.cursor.now.number (c.block.ensures _ front r.tokens r.tree.whole r.awaits.counts) (c.in_ok-add.ensures.numbers low r.number _ r.awaits.rises r.rises) in
    record { awaits = refl; piece = r.piece; is_open = rw r.begun o }
