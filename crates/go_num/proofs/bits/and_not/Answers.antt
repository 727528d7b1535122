use Rattle.go_num.proofs.WordLemmas.{word_and_not}
use Rattle.go_num.proofs.bits.and_not.Goals as goal

pub returns : goal.returns
returns c = word_and_not c.args.a c.args.b c.ranges.a c.ranges.b
