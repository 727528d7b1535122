use Rattle.std.proofs.Common.{arith}
use Rattle.go_scan.proofs.SpaceLemmas.{gap_on, gap_nothing}
use Rattle.go_scan.proofs.gap.place.Goals as goal

pub loop-end-init : goal.loop-end-init
loop-end-init c = record { from = omega arith; within = c.requires; gap = gap_nothing _ _ _ }

pub loop-end-preserved : goal.loop-end-preserved
loop-end-preserved c =
    let s = rw c.in-Ok-Some.field-0-is at c.in-Ok-Some.ensures.space in
    record { from = omega (arith, c.loop-end.invariant.from, s.1); within = s.2; gap = gap_on _ _ _ _ _ c.loop-end.invariant.gap s.0 c.in-None.ensures.none }
