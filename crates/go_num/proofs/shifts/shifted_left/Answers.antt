use Rattle.go_num.proofs.ShiftLemmas.{shifted_by_product, wide_shifted}
use Rattle.go_num.proofs.shifts.shifted_left.Goals as goal
use Rattle.go_num.proofs.shifts.shifted_left.Goals.{else-a-eqminus1-via-then-a-eqminus1+else-count-eq127, else-a-eqminus1-via-else-a-eqminus1}

pub returns-then-count-lt127 : goal.returns-then-count-lt127
returns-then-count-lt127 c =
    shifted_by_product c.checked_mul.result c.args.a c.args.count c.ranges.a c.if-count-lt127.true c.checked_mul.ensures

pub returns-else-a-eqminus1 : goal.returns-else-a-eqminus1
returns-else-a-eqminus1 c =
    wide_shifted c.args.a c.args.count c.if-count-lt127.false c.if-a-eq0.false
    (elim c.else-a-eqminus1.branch [
      | else-a-eqminus1-via-then-a-eqminus1+else-count-eq127 w ↦ λ _ far. w.if-count-eq127.false far
      | else-a-eqminus1-via-else-a-eqminus1 w ↦ λ e _. w.if-a-eqminus1.false e
    ])
