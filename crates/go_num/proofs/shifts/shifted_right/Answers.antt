use Rattle.go_num.proofs.ShiftLemmas.{shifted_right_is}
use Rattle.go_num.proofs.shifts.shifted_right.Goals as goal

pub returns : goal.returns
returns c = shifted_right_is c.args.a c.args.count c.min.result c.ranges.a c.min.ensures
