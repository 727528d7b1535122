use Rattle.std.proofs.Common.{refl}
use Rattle.go_parse_x.specs.Tables.Lines.{side}
use Rattle.go_parse_x.proofs.TurnLemmas.{sides_push, seq_same}
use Rattle.go_parse_x.proofs.StepLemmas.{taken_turn, taken_cheaper, called_turn, called_cheaper}
use Rattle.go_parse_x.proofs.WeightLemmas.{seq_cheaper}
use Rattle.go_parse_x.proofs.machine.series.Goals as goal

pub returns-in-Pass-clause-turn : goal.returns-in-Pass-clause-turn
returns-in-Pass-clause-turn c =
    let is = rw c.in-Pass.is at c.shape_at.ensures.side in
    taken_turn c.pass.result _ (side c.args.g) (side c.args.h) _ _ is _ c.args.seen _ _ c.requires (c.pass.ensures.turn _ _ _)

pub returns-in-Pass-clause-cheaper : goal.returns-in-Pass-clause-cheaper
returns-in-Pass-clause-cheaper c =
    let is = rw c.in-Pass.is at c.shape_at.ensures.side in
    taken_cheaper c.pass.result _ (side c.args.g) (side c.args.h) _ _ is (c.pass.ensures.cheaper _)

pub returns-in_ok-turn-in-Act-clause-turn : goal.returns-in_ok-turn-in-Act-clause-turn
returns-in_ok-turn-in-Act-clause-turn c =
    let is = rw c.in-Act.is at c.shape_at.ensures.side in
    taken_turn _ _ (side c.args.g) (side c.args.h) _ _ is _ c.args.seen _ _ c.requires (c.in_ok-turn-in-Act.ensures.turn _)

pub returns-in_ok-turn-in-Act-clause-cheaper : goal.returns-in_ok-turn-in-Act-clause-cheaper
returns-in_ok-turn-in-Act-clause-cheaper c =
    let is = rw c.in-Act.is at c.shape_at.ensures.side in
    taken_cheaper _ _ (side c.args.g) (side c.args.h) _ _ is (c.in_ok-turn-in-Act.ensures.cheaper _)

pub returns-in_ok-push-in_default-clause-turn : goal.returns-in_ok-push-in_default-clause-turn
returns-in_ok-push-in_default-clause-turn c =
    rw (c.turned-in_default.ensures.turn, c.turned-in_default.ensures.next, c.in_ok-push-in_default.ensures.items, sides_push) (seq_same _ c.args.seen _ _ _ _ c.requires)

pub returns-in_ok-push-in_default-clause-cheaper : goal.returns-in_ok-push-in_default-clause-cheaper
returns-in_ok-push-in_default-clause-cheaper c =
    rw (c.turned-in_default.ensures.turn, c.turned-in_default.ensures.next, c.in_ok-push-in_default.ensures.items, sides_push c.args.todo.now.items c.args.h) (seq_cheaper (side c.args.g) (side c.args.h) _)

pub returns-then-hands_over-clause-turn : goal.returns-then-hands_over-clause-turn
returns-then-hands_over-clause-turn c =
    rw (c.turned.ensures.turn, c.turned.ensures.next, c.in_ok-push-in-Call.ensures.items, sides_push) (seq_same _ c.args.seen _ _ _ _ c.requires)

pub returns-else-hands_over-clause-turn : goal.returns-else-hands_over-clause-turn
returns-else-hands_over-clause-turn c =
    let is = rw c.in-Call.is at c.shape_at.ensures.side in
    rw (c.turned-in-Call.ensures.turn, c.turned-in-Call.ensures.next, c.in_ok-push-in-Call.ensures.items, sides_push, c.start.ensures)
    (called_turn _ c.args.seen c.in-Call.n (side c.args.g) (side c.args.h) _ _ is c.requires (c.hands_over.ensures.no (rw c.if-hands_over.false refl)))

pub returns-else-hands_over-clause-cheaper : goal.returns-else-hands_over-clause-cheaper
returns-else-hands_over-clause-cheaper c =
    let is = rw c.in-Call.is at c.shape_at.ensures.side in
    rw (c.turned-in-Call.ensures.turn, c.turned-in-Call.ensures.next, c.in_ok-push-in-Call.ensures.items, sides_push c.args.todo.now.items c.args.h, c.start.ensures)
    (called_cheaper c.in-Call.n (side c.args.g) (side c.args.h) _ is)
