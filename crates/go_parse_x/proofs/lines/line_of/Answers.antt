use Rattle.std.proofs.Common.{refl}
use Rattle.go_parse_x.proofs.lines.line_of.Goals as goal

-- src/lines.rt:15:1
pub returns-in-ForAfterExpr-clause-side : goal.returns-in-ForAfterExpr-clause-side
returns-in-ForAfterExpr-clause-side c = rw c.in-ForAfterExpr.is refl
