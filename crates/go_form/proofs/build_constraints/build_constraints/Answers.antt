use Rattle.std.proofs.Common.{arith}
use Rattle.go_tree.specs.Lexical.Scan.{none}
use Rattle.go_tree.proofs.SpaceLemmas.{space_lies}
use Rattle.go_form.proofs.BuildConstraintLemmas.{goes_on, goes_within, gap_more, gets_none, gets_more}
use Rattle.go_form.proofs.build_constraints.build_constraints.Goals as goal

pub loop-at-init : goal.loop-at-init
loop-at-init c = record { within = omega arith; reached = none; gets = gets_none _ _ }

pub add_constraint-requires : goal.add_constraint-requires
add_constraint-requires c =
    let g = goes_on _ _ _ c.loop-at.invariant.reached c.requires c.loop-at-test.true in
    let l = space_lies _ _ _ g.space in
    let b = l.behind in let w = l.within in omega (arith, b, w)

pub space_end-at-requires : goal.space_end-at-requires
space_end-at-requires c =
    let g = goes_on _ _ _ c.loop-at.invariant.reached c.requires c.loop-at-test.true in
    (g.to, g.space)

pub loop-at-smaller : goal.loop-at-smaller
loop-at-smaller c =
    let w = goes_within _ _ _ _ c.loop-at.invariant.reached c.requires c.loop-at-test.true c.space_end-at.ensures in
    omega (arith, w.0, w.1)

pub loop-at-preserved : goal.loop-at-preserved
loop-at-preserved c = record {
  within = (goes_within _ _ _ _ c.loop-at.invariant.reached c.requires c.loop-at-test.true c.space_end-at.ensures).1;
  reached = gap_more _ _ _ c.loop-at.invariant.reached c.space_end-at.ensures;
  gets = gets_more _ _ _ _ _ _ c.loop-at.invariant.reached c.space_end-at.ensures c.loop-at.invariant.gets c.in_ok-add_constraint.ensures;
}
