use Rattle.std.proofs.Common.{◌+◌, ◌<◌, ◌^◌, get_or, ◌∙◌, arith}
use Rattle.go_same.specs.Joins.{raised_method}
use Rattle.go_same.proofs.RaiseLemmas.{up_to-next, up_to-holds, up_to-past}
use Rattle.go_same.proofs.join.raise_methods.Goals as goal

pub overflow_add-m : goal.overflow_add-m
overflow_add-m c =
    let fits : (get_or c.loop-m.methods c.loop-m.m-index c.m-item.result).opened + 1 < 2 ^ 32 = up_to-holds (λ x. x.opened + 1 < 2 ^ 32) raised_method c.loop-m.m-index c.args.methods.now c.loop-m.methods c.m-item.result c.loop-m.invariant c.loop-m-test.true c.requires in
    omega (arith, fits)

pub loop-m-preserved : goal.loop-m-preserved
loop-m-preserved c = up_to-next raised_method c.loop-m.m-index c.args.methods.now c.loop-m.methods c.m-item.result c.loop-m.invariant c.loop-m-test.true

pub returns : goal.returns
returns c = c.loop-m.invariant ∙ up_to-past raised_method c.loop-m.m-index c.args.methods.now c.loop-m-test.false
