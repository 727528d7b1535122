use Rattle.std.proofs.Common.{[], ap, ◌∙◌}
use Rattle.std.specs.Prelude.{unwrap_or}
use Rattle.std.proofs.lemmas.Result.{IfOk-weaker}
use Rattle.go_scan.specs.StringTexts.{string_of}
use Rattle.go_expr.specs.Outcomes.{text_view}
use Rattle.go_expr.proofs.NodeOutcomeLemmas.{text_outcome}
use Rattle.go_expr.proofs.literal.string_literal.Goals as goal

pub returns-clause-outcome : goal.returns-clause-outcome
returns-clause-outcome g c = IfOk-weaker c.text_outcome.result _ _
    (λ outcome is headers parts. is ∙ ap text_view c.in_ok-bytes.ensures ∙ text_outcome headers (unwrap_or (string_of c.args.text.now) []) parts)
    c.text_outcome.ensures.outcome
