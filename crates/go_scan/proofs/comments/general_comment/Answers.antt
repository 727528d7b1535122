use Rattle.std.proofs.Common.{◌+◌, ◌≤◌, length, sym, ◌∙◌, arith}
use Rattle.go_tree.specs.Lexical.Characters.{none}
use Rattle.go_tree.proofs.CharacterRunLemmas.{run_from}
use Rattle.go_tree.proofs.SpaceLemmas.{opens_general_within, closes_within}
use Rattle.go_scan.proofs.CommentLemmas.{closing, open_first, inside_on, inside_moves, general_stuck, general_none, open_short, not_closing}
use Rattle.go_scan.proofs.comments.general_comment.Goals as goal

pub loop-from-init : goal.loop-from-init
loop-from-init c = record { within = opens_general_within _ _ c.requires; run = none; opened = open_first _ _ }

pub loop-from-preserved : goal.loop-from-preserved
loop-from-preserved c = inside_on _ _ _ _ c.loop-from.invariant (sym c.closes.ensures ∙ c.if-closes.false) c.in-Some.ensures.some

pub loop-from-smaller : goal.loop-from-smaller
loop-from-smaller c = let m = inside_moves _ _ _ c.in-Some.ensures.some in omega (arith, m.0, m.1)

pub overflow_add-at-in-Some : goal.overflow_add-at-in-Some
overflow_add-at-in-Some c = let m = inside_moves _ _ _ c.in-Some.ensures.some in omega (arith, m.1)

pub returns-then-closes-clause-within : goal.returns-then-closes-clause-within
returns-then-closes-clause-within c =
    let bytes = c.args.bytes.now in
    let at = c.loop-from.at in
    let w : at + 2 ≤ length bytes = closes_within bytes at (closing bytes at (sym c.closes.ensures ∙ c.if-closes.true)) in
    let past = run_from c.loop-from.invariant.run in
    (omega (arith, past), w)

pub returns-in-None-clause-stuck : goal.returns-in-None-clause-stuck
returns-in-None-clause-stuck c = general_stuck c.args.bytes.now c.args.from c.loop-from.at c.requires c.loop-from.invariant.run c.in-None.ensures.none (open_short c.args.bytes.now (c.args.from + 2) c.loop-from.at c.loop-from.invariant.opened)

pub returns-in-None-clause-none : goal.returns-in-None-clause-none
returns-in-None-clause-none c = general_none c.args.bytes.now c.args.from c.loop-from.at c.loop-from.invariant c.in-None.ensures.none (not_closing c.args.bytes.now c.loop-from.at (sym c.closes.ensures ∙ c.if-closes.false))
