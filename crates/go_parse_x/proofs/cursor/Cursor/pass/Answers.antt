use Rattle.go_scan.proofs.NextLemmas.{next_within}
use Rattle.go_parse_x.proofs.cursor.Cursor.pass.Goals as goal

pub invariant_of-self : goal.invariant_of-self
invariant_of-self c = record { within = (next_within c.args.self.now.bytes.now c.args.self.now.at c.args.self.now.last c.args.token c.args.self.now.within c.requires).2 }
