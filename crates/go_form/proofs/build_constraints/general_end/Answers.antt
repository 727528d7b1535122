use Rattle.std.proofs.Common.{arith}
use Rattle.go_form.proofs.BuildConstraintLemmas.{general_from, general_within, general_on, general_here}
use Rattle.go_form.proofs.build_constraints.general_end.Goals as goal

pub loop-at-init : goal.loop-at-init
loop-at-init c = record { behind = omega arith; before = λ to h. general_from _ _ to h }

pub closes-requires : goal.closes-requires
closes-requires c = let w = general_within _ _ _ c.requires.1 in let b = c.loop-at.invariant.before c.requires.0 c.requires.1 in omega (arith, w, b)

pub overflow_add-at-in-loop-at : goal.overflow_add-at-in-loop-at
overflow_add-at-in-loop-at c = let w = general_within _ _ _ c.requires.1 in let b = c.loop-at.invariant.before c.requires.0 c.requires.1 in omega (arith, w, b)

pub loop-at-smaller : goal.loop-at-smaller
loop-at-smaller c = let w = general_within _ _ _ c.requires.1 in let b = c.loop-at.invariant.before c.requires.0 c.requires.1 in omega (arith, w, b)

pub loop-at-preserved : goal.loop-at-preserved
loop-at-preserved c =
    record {
      behind = let b = c.loop-at.invariant.behind in omega (arith, b);
      before = λ to h. general_on _ _ _ to h (c.loop-at.invariant.before to h) (c.closes.ensures.open c.loop-at-test.true);
    }

pub returns : goal.returns
returns c = general_here _ _ _ _ c.requires.1 c.loop-at.invariant.behind (c.loop-at.invariant.before c.requires.0 c.requires.1) (c.closes.ensures.closes c.loop-at-test.false)
