use Rattle.std.proofs.Common.{None, ap, ◌∙◌}
use Rattle.go_term.specs.View.{type_of}
use Rattle.go_judge.specs.Judged.{Found}
use Rattle.go_ops.specs.ComparisonStages.{compared_both}
use Rattle.go_constructs.specs.Operators.Constants.{record_of}
use Rattle.go_ops.proofs.comparison.of_kept.Goals as goal

pub returns-clause-outcome : goal.returns-clause-outcome
returns-clause-outcome g c =
    let first = c.constant_in-first.ensures type_of in
    let second = c.constant_in-second.ensures type_of in
    let value = c.compared_both-value.ensures ∙ (λ i. compared_both c.args.op (first i) (second i)) in
    ap Found (c.record_of.ensures.record ∙ (λ i. record_of (c.in_ok-ty.ensures.made i) (value i) None))
