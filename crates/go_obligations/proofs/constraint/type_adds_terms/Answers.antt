use Rattle.std.proofs.Common.{sym, ap, ◌∙◌}
use Rattle.go_model.specs.Obligations.Constraints.{adds_terms}
use Rattle.go_obligations.proofs.LayerLemmas.{terms-added}
use Rattle.go_obligations.proofs.constraint.type_adds_terms.Goals as goal

pub returns-clause-adds : goal.returns-clause-adds
returns-clause-adds g c =
    c.adds_terms.ensures ∙ sym (terms-added (g.F.Ask.tree c.see.new.self) c.in_ok-shape.shape) ∙ ap adds_terms c.in_ok-shape.ensures.shape
