use Rattle.std.proofs.Common.{[]}
use Rattle.go_parse_x.proofs.SettleLemmas.{passed_on, turned_on, asked_on, stuck_on, same_from, sound_from, settled_ok}
use Rattle.go_parse_x.proofs.TurnLemmas.{none_stuck}
use Rattle.go_parse_x.proofs.settle.settle.Goals as goal

pub returns-in_default-clause-turn : goal.returns-in_default-clause-turn
returns-in_default-clause-turn c =
    let i = c.loop-place.invariant in
    rw c.stuck.ensures (stuck_on _ c.args.seen _ [] _ _ _ _ c.loop-place.asked (same_from _ c.args.seen _ _ _ _ _ _ c.in_default.ensures.none i.same) i.met (none_stuck _ c.args.seen _))

pub loop-place-preserved-in-Turned : goal.loop-place-preserved-in-Turned
loop-place-preserved-in-Turned c =
    let t = rw c.in-Turned.is at c.in_ok-stepped.ensures.turn in
    let i = c.loop-place.invariant in
    let here = c.in-Some.ensures.some in
    record {
      same = turned_on _ c.args.seen _ _ _ _ _ _ c.loop-place.asked (same_from _ c.args.seen _ _ _ _ _ _ here i.same) t;
      met = i.met;
      sound = t.sound (sound_from _ _ here i.sound);
      numbers = λ low r. c.in_ok-stepped.ensures.numbers low (i.numbers low r);
    }

pub loop-place-preserved : goal.loop-place-preserved
loop-place-preserved c =
    let t = rw c.in-Asked.is at c.in_ok-stepped.ensures.turn in
    let i = c.loop-place.invariant in
    let here = c.in-Some.ensures.some in
    let z = asked_on _ c.args.seen _ _ _ _ _ _ c.loop-place.asked (same_from _ c.args.seen _ _ _ _ _ _ here i.same) i.met t in
    record {
      same = z.0;
      met = z.1;
      sound = t.2.sound (sound_from _ _ here i.sound);
      numbers = λ low r. c.in_ok-stepped.ensures.numbers low (i.numbers low r);
    }

pub returns-in-Stuck-clause-turn : goal.returns-in-Stuck-clause-turn
returns-in-Stuck-clause-turn c =
    let t = rw c.in-Stuck.is at c.in_ok-stepped.ensures.turn in
    let i = c.loop-place.invariant in
    let here = c.in-Some.ensures.some in
    rw c.stuck-in-Stuck.ensures (stuck_on _ c.args.seen _ _ _ _ _ _ c.loop-place.asked (same_from _ c.args.seen _ _ _ _ _ _ here i.same) i.met t)

pub returns-in-Passed-clause-turn : goal.returns-in-Passed-clause-turn
returns-in-Passed-clause-turn c =
    let t = rw c.in-Passed.is at c.in_ok-stepped.ensures.turn in
    let i = c.loop-place.invariant in
    let here = c.in-Some.ensures.some in
    let x = passed_on _ c.args.seen _ _ _ _ _ _ c.loop-place.asked (same_from _ c.args.seen _ _ _ _ _ _ here i.same) i.met (sound_from _ _ here i.sound) t in
    settled_ok _ c.args.seen _ _ _ _ _ _ c.put_back.result c.put_back.ensures.turn c.put_back.ensures.todo x
