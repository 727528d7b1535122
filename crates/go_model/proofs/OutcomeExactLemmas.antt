-- Where a node has a record, breaks a rule, waits, and has nothing.
use Rattle.std.proofs.Common.{◌≡◌, sym, ◌∙◌}
use Rattle.go_tree.specs.Tree.{Tree}
use Rattle.go_judge.specs.Headers.{Headers}
use Rattle.go_judge.specs.Naming.{Naming}
use Rattle.go_judge.proofs.ExactWaitLemmas.{judged_exactly}
use Rattle.go_model.specs.Outcomes.Exactly.{OutcomeExactly}
use Rattle.go_model.specs.Outcomes.Walk.{construct, operand_outcomes}
use Rattle.go_model.proofs.OutcomeLemmas.{outcome-operands}

pub outcome_exactly : (naming : Naming) (headers : Headers) (t : Tree) → OutcomeExactly naming headers t
outcome_exactly naming headers t =
    let is = outcome-operands naming headers t in
    let all = judged_exactly headers (construct naming t) (operand_outcomes naming headers t) in
    record {
      found = λ v. ((λ e. (all.found v).0 (sym is ∙ e)), (λ h. is ∙ (all.found v).1 h));
      broken = λ rule spots. ((λ e. (all.broken rule spots).0 (sym is ∙ e)), (λ h. is ∙ (all.broken rule spots).1 h));
      waits = λ d. ((λ e. (all.waits d).0 (sym is ∙ e)), (λ h. is ∙ (all.waits d).1 h));
      nothing = ((λ e. all.nothing.0 (sym is ∙ e)), (λ h. is ∙ all.nothing.1 h));
    }
