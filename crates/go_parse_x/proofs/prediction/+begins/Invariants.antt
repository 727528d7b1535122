use Rattle.go_parse_x.specs.Tables.Lines.{side}
use Rattle.go_parse_x.specs.Tables.Sizes.{size}
use Rattle.go_parse_x.proofs.prediction.+begins.Given as goal

abbrev pub decreases-begins : goal.decreases-begins
decreases-begins l = size (side l.place.now)
