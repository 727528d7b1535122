use Rattle.std.proofs.Common.{sym, ap, ◌∙◌}
use Rattle.std.proofs.lemmas.Result.{IfOk-weaker}
use Rattle.go_constructs.specs.declared.meaning.Meaning.TheVariants.{Iota}
use Rattle.go_constructs.specs.Name as spec
use Rattle.go_judge.specs.Judged.{judged}
use Rattle.go_expr.specs.Outcomes.{iota_view}
use Rattle.go_expr.proofs.NodeOutcomeLemmas.{iota_outcome}
use Rattle.go_expr.proofs.name.iota.Goals as goal

pub returns-in-Some-clause-outcome : goal.returns-in-Some-clause-outcome
returns-in-Some-clause-outcome g c = IfOk-weaker c.numbered.result _ _
    (λ outcome is headers parts.
    is
    ∙ ap (iota_view c.args.d) c.number_of_spec.ensures
    ∙ iota_outcome headers c.args.d c.in-Some.n parts
    ∙ ap (λ number. judged headers (spec.name (Iota c.args.d number)) parts) (sym c.in-Some.is))
    c.numbered.ensures.outcome
