use Rattle.std.proofs.Common.{sym, ◌∙◌, arith}
use Rattle.go_tree.specs.Lexical.Characters.{none}
use Rattle.go_scan.specs.Runs.{passes_of}
use Rattle.go_tree.proofs.CharacterRunLemmas.{More, one_more}
use Rattle.go_scan.proofs.runs.run_end.Goals as goal

step : (c : goal.Then-passes) → More (passes_of c.args.test) c.args.bytes.now c.args.from c.loop-c.at c.in-Some.size
step c = one_more (passes_of c.args.test) c.args.bytes.now c.args.from c.loop-c.at c.in-Some.c c.in-Some.size c.loop-c.invariant.run c.in-Some.ensures.some.0 c.in-Some.ensures.some.1 (rw (c.byte_at-before.ensures, c.saturating_sub.ensures) at (sym c.passes.ensures ∙ c.if-passes.true))

pub loop-c-init : goal.loop-c-init
loop-c-init c = record { from = omega arith; within = c.requires; run = none }

pub loop-c-preserved : goal.loop-c-preserved
loop-c-preserved c = let s = step c in record { from = omega (arith, c.loop-c.invariant.from); within = s.within; run = s.run }

pub loop-c-smaller : goal.loop-c-smaller
loop-c-smaller c = let s = step c in omega (arith, s.within, s.some)

pub overflow_add-at : goal.overflow_add-at
overflow_add-at c = let w = (step c).within in omega arith
