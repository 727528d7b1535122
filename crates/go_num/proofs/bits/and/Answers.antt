use Rattle.go_num.proofs.WordLemmas.{word_and}
use Rattle.go_num.proofs.bits.and.Goals as goal

pub returns : goal.returns
returns c = word_and c.args.a c.args.b c.ranges.a c.ranges.b
