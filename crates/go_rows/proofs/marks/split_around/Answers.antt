use Rattle.std.proofs.Common.{arith}
use Rattle.go_rows.proofs.marks.split_around.Goals as goal

-- a word that occurs fits, so its place is among those that were searched
pub returns-in-None-clause-none : goal.returns-in-None-clause-none
returns-in-None-clause-none c = λ _ k occurs. c.in-None.ensures k (omega arith) (omega (arith, occurs.fits)) occurs
