use Rattle.std.proofs.Common.{sym, ap, ◌∙◌}
use Rattle.go_model.specs.Obligations.Embedding.{embeds_as}
use Rattle.go_obligations.specs.EmbeddingParts.{answer_of}
use Rattle.go_obligations.proofs.LayerLemmas.{embeds-told}
use Rattle.go_obligations.proofs.embedding.embeds_type.Goals as goal

pub returns-clause-answer : goal.returns-clause-answer
returns-clause-answer g c =
    let told = embeds-told (g.F.Ask.tree c.see.new.self) c.args.starred c.in_ok-shape.shape in
    c.answer_of.ensures ∙ ap answer_of (c.embeds.ensures ∙ sym told ∙ ap (embeds_as c.args.starred) c.in_ok-shape.ensures.shape)
