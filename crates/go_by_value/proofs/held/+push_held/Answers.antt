use Rattle.std.proofs.Common.{arith}
use Rattle.go_by_value.proofs.HeldLemmas.{here_depth, here_own}
use Rattle.go_by_value.proofs.held.+push_held.Goals as goal

pub push_held_in_fields-push_held-requires : goal.push_held_in_fields-push_held-requires
push_held_in_fields-push_held-requires g t c κs lives =
    let inv = c.loop-field.invariant in
    let near = here_depth inv.keeps.kept c.args.fields.now c.loop-field.field-index c.field-item.result c.loop-field-test.true c.field-item.is inv.own in
    (omega (arith, near, c.decreases), (lives, here_own inv.keeps.kept c.args.fields.now c.loop-field.field-index c.field-item.result c.loop-field-test.true c.field-item.is inv.own))
