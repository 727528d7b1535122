use Rattle.std.proofs.Common.{◌≤◌, ◌-◌, arith}
use Rattle.go_tree.specs.Height.{height_of}
use Rattle.go_parse_tests.proofs.HandedBlockLemmas.{empty_read, return_read}
use Rattle.go_parse_tests.proofs.literal_tests.rest_of_literal.Goals as goal

pub hand_in-requires-clause-read : goal.hand_in-requires-clause-read
hand_in-requires-clause-read c =
    let a = c.requires.block in
    let free = c.free.ensures a.0 a.1.1.counts in
    let few = c.if-free-lt2.false in
    let enough : 2 ≤ c.args.pending.now.free - height_of a.0 = omega (arith, free, few) in
    (a.0, (a.1.0, return_read c.args.cursor.now c.return_block.new.cursor c.args.pending.now a.0 a.1.0 c.in-Some.block c.requires.begun c.requires.piece a.1.1 (rw c.in-Some.is at c.in_ok-return_block.ensures.block) c.in_ok-return_block.ensures.others.0 enough))

pub hand_in-requires-in-Some-2-clause-read : goal.hand_in-requires-in-Some-2-clause-read
hand_in-requires-in-Some-2-clause-read c =
    let a = c.requires.block in
    let free = c.free.ensures a.0 a.1.1.counts in
    let few = c.if-free-lt2.false in
    let enough : 2 ≤ c.args.pending.now.free - height_of a.0 = omega (arith, free, few) in
    (a.0, (a.1.0, empty_read c.args.cursor.now c.empty_block.new.cursor c.args.pending.now a.0 a.1.0 c.in-Some-2.block c.requires.begun c.requires.piece a.1.1 (rw c.in-Some-2.is at c.in_ok-empty_block.ensures.block) c.in_ok-empty_block.ensures.others.0 enough))
