use Rattle.go_num.proofs.WordLemmas.{word_xor}
use Rattle.go_num.proofs.bits.xor.Goals as goal

pub returns : goal.returns
returns c = word_xor c.args.a c.args.b c.ranges.a c.ranges.b
