use Rattle.std.proofs.Common.{◌+◌, ◌<◌, ◌^◌, get_or, ◌∙◌, arith}
use Rattle.go_same.specs.Joins.{raised_part}
use Rattle.go_same.proofs.RaiseLemmas.{up_to-next, up_to-holds, up_to-past}
use Rattle.go_same.proofs.join.raise_parts.Goals as goal

pub overflow_add-p : goal.overflow_add-p
overflow_add-p c =
    let fits : (get_or c.loop-p.parts c.loop-p.p-index c.p-item.result).opened + 1 < 2 ^ 32 = up_to-holds (λ x. x.opened + 1 < 2 ^ 32) raised_part c.loop-p.p-index c.args.parts.now c.loop-p.parts c.p-item.result c.loop-p.invariant c.loop-p-test.true c.requires in
    omega (arith, fits)

pub loop-p-preserved : goal.loop-p-preserved
loop-p-preserved c = up_to-next raised_part c.loop-p.p-index c.args.parts.now c.loop-p.parts c.p-item.result c.loop-p.invariant c.loop-p-test.true

pub returns : goal.returns
returns c = c.loop-p.invariant ∙ up_to-past raised_part c.loop-p.p-index c.args.parts.now c.loop-p-test.false
