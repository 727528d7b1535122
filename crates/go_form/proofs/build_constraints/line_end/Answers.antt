use Rattle.std.proofs.Common.{arith}
use Rattle.go_form.proofs.BuildConstraintLemmas.{line_from, line_here}
use Rattle.go_form.proofs.build_constraints.line_end.Goals as goal

pub loop-at-init : goal.loop-at-init
loop-at-init c = record { behind = omega arith; before = λ to h. line_from _ _ to h }

pub returns-else-bytes-at-ne10 : goal.returns-else-bytes-at-ne10
returns-else-bytes-at-ne10 c = line_here _ _ _ _ c.requires.1 c.loop-at.invariant.behind (c.loop-at.invariant.before c.requires.0 c.requires.1) c.if-bytes-at-ne10.false
