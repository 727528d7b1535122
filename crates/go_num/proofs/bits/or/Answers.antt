use Rattle.go_num.proofs.WordLemmas.{word_or}
use Rattle.go_num.proofs.bits.or.Goals as goal

pub returns : goal.returns
returns c = word_or c.args.a c.args.b c.ranges.a c.ranges.b
