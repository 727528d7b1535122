use Rattle.std.proofs.Common.{ℕ, List, subst}
use Rattle.std.specs.Prelude.{codes}
use Rattle.bstr.specs.Find.{OccursAt}
use Rattle.go_rows.proofs.marks.without_marks.Goals as goal

-- behind a mark the premise fails: the mark opens in what is left, which was the whole text
pub loop-before-preserved : goal.loop-before-preserved
loop-before-preserved c = λ none.
    let opens = c.in-Some.ensures.some in
    let within : List ℕ → Type 0 = λ text. OccursAt text (codes "/*!") opens.0 in
    absurd (none opens.0 (subst within (c.loop-before.invariant none).0 opens.1))
