use Rattle.std.proofs.Common.{ap, sym, ◌∙◌}
use Rattle.go_judge.specs.Types.Forms.{answer_as}
use Rattle.go_obligations.specs.Conflicts.{is_no}
use Rattle.go_obligations.proofs.conflicts.differ.Goals as goal

pub returns-in-No-clause-differ : goal.returns-in-No-clause-differ
returns-in-No-clause-differ g c = ap (λ a. is_no (answer_as a)) (sym c.in-No.is) ∙ ap is_no c.in_ok-identical.ensures.answer

pub returns-in-Yes-clause-differ : goal.returns-in-Yes-clause-differ
returns-in-Yes-clause-differ g c = ap (λ a. is_no (answer_as a)) (sym c.in-Yes.is) ∙ ap is_no c.in_ok-identical.ensures.answer

pub returns-in-Unknown-clause-differ : goal.returns-in-Unknown-clause-differ
returns-in-Unknown-clause-differ g c = ap (λ a. is_no (answer_as a)) (sym c.in-Unknown.is) ∙ ap is_no c.in_ok-identical.ensures.answer
