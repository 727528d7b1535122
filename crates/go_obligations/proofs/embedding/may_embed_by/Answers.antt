use Rattle.std.proofs.Common.{ap, ◌∙◌}
use Rattle.std.proofs.lemmas.Result.{IfOk-weaker}
use Rattle.go_obligations.specs.EmbeddingParts.{embeds_asked}
use Rattle.go_obligations.proofs.EmbeddingLemmas.{embeds-other}
use Rattle.go_obligations.proofs.embedding.may_embed_by.Goals as goal

pub returns-clause-answer : goal.returns-clause-answer
returns-clause-answer g c =
    let other = embeds-other (g.F.Ask.headers c.args.judge.now) c.args.starred (g.F.Ask.tree c.args.judge.now c.args.t.now) (c.requires.parameter ∙ c.if-parameter.false) in
    IfOk-weaker c.embeds_form.result _ _ (λ answer h. h ∙ ap (embeds_asked c.args.starred) c.in_ok-form.ensures.answer ∙ other) c.embeds_form.ensures.answer
