use Rattle.go_scan.proofs.NumberLemmas.{number_longest, number_point}
use Rattle.go_scan.proofs.numbers.number.Goals as goal

pub returns-clause-longest : goal.returns-clause-longest
returns-clause-longest c n m = number_longest _ _ _ n _ c.is_hexadecimal.ensures c.run_end-to.ensures.run c.run_end-to.ensures.ends m

pub returns-clause-point : goal.returns-clause-point
returns-clause-point c point = number_point _ _ _ c.requires point (returns-clause-longest c)
