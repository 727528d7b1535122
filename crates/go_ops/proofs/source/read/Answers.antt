use Rattle.std.proofs.Common.{Option, [], ◌∷◌, sym, ap, ◌∙◌}
use Rattle.std.proofs.lemmas.Result.{IfOk-weaker}
use Rattle.std.specs.Option.{option_map}
use Rattle.std.specs.Prelude.{unwrap_or}
use Rattle.go_base.specs.declared.rule.Rule.{Rule}
use Rattle.go_term.specs.Types.{TypeData, list, of_list}
use Rattle.go_judge.specs.declared.outcome.Spot.TheVariants.{Whole}
use Rattle.go_judge.specs.Judged.{Broken}
use Rattle.go_judge.specs.Records.{rec_as}
use Rattle.go_judge.specs.Types.Forms.{underlying_over}
use Rattle.go_ops.specs.Sources.{read_asked}
use Rattle.go_ops.proofs.SourceLemmas.{read-asked, read-none}
use Rattle.go_ops.proofs.source.read.Goals as goal

pub returns-in-Some-clause-outcome : goal.returns-in-Some-clause-outcome
returns-in-Some-clause-outcome g c =
    let headers = g.J.Ask.headers c.args.judge.now in
    let tree = g.J.Ask.tree c.args.judge.now in
    IfOk-weaker c.read_typed.result _ _
    (λ outcome is.
    is
    ∙ ap (λ (o : Option TypeData). read_asked c.args.source (underlying_over headers (unwrap_or o (of_list list [])))) (sym (ap (option_map tree) c.in-Some.is))
    ∙ read-asked headers c.args.source (rec_as tree c.args.a.now))
    c.read_typed.ensures.outcome

pub returns-in-None-clause-outcome : goal.returns-in-None-clause-outcome
returns-in-None-clause-outcome g c =
    let headers = g.J.Ask.headers c.args.judge.now in
    let tree = g.J.Ask.tree c.args.judge.now in
    IfOk-weaker c.broken.result _ _
    (λ outcome is.
    is
    ∙ ap (λ (rule : Rule). Broken rule (Whole ∷ [])) c.rule_of.ensures
    ∙ read-none headers c.args.source (rec_as tree c.args.a.now) (ap (option_map tree) c.in-None.is))
    c.broken.ensures.outcome
