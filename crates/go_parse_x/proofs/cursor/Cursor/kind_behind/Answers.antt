use Rattle.go_scan.proofs.NextLemmas.{next_within}
use Rattle.go_parse_x.proofs.cursor.Cursor.kind_behind.Goals as goal

pub next-requires : goal.next-requires
next-requires c = (next_within c.args.self.now.bytes.now c.args.self.now.at c.args.self.now.last c.args.token c.args.self.now.within c.requires.next).2
