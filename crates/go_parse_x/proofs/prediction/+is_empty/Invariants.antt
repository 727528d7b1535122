use Rattle.go_parse_x.specs.Tables.Lines.{side}
use Rattle.go_parse_x.specs.Tables.Sizes.{size}
use Rattle.go_parse_x.proofs.prediction.+is_empty.Given as goal

abbrev pub decreases-is_empty : goal.decreases-is_empty
decreases-is_empty l = size (side l.place.now)
