use Rattle.std.proofs.Common.{◌≤◌, ◌-◌, length, ap, ◌∙◌, arith}
use Rattle.std.proofs.lemmas.Grind.{get_or_default_zero}
use Rattle.go_base.proofs.LinesLemmas.{IsNonDecreasing-starts, some_start, line_of-starts}
use Rattle.go_base.proofs.LinesLemmas.{column_of-starts}
use Rattle.go_base.proofs.lines.place_by.Goals as goal

pub starts_up_to-line-requires : goal.starts_up_to-line-requires
starts_up_to-line-requires c = IsNonDecreasing-starts _ _ _ c.requires.starts

pub overflow_sub-start : goal.overflow_sub-start
overflow_sub-start c =
    omega (arith, some_start _ _ _ _ c.requires.starts c.starts_up_to-line.ensures)

pub overflow_sub-result : goal.overflow_sub-result
overflow_sub-result c =
    let found = c.starts_up_to-line.ensures in
    let some = some_start _ _ _ _ c.requires.starts found in
    omega (arith, found.below (c.starts_up_to-line.result - 1) (omega arith))

pub returns-clause-line : goal.returns-clause-line
returns-clause-line c =
    line_of-starts _ _ _ _ c.requires.within c.requires.starts c.starts_up_to-line.ensures

pub returns-clause-col : goal.returns-clause-col
returns-clause-col c =
    column_of-starts _ _ _ _ c.requires.within c.requires.starts c.starts_up_to-line.ensures
