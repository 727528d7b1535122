use Rattle.std.proofs.Common.{ap, ◌∙◌}
use Rattle.go_judge.specs.Types.TypeIdentity as identity
use Rattle.go_judge.specs.Types.TypeSets.{plain}
use Rattle.go_same.proofs.TermLemmas.{declared-layer}
use Rattle.go_same.proofs.see.is_declared.Goals as goal

pub returns-clause-declared : goal.returns-clause-declared
returns-clause-declared g c =
    c.is_name.ensures ∙ declared-layer (g.J.Ask.tree c.see.new.self) c.in_ok-shape.shape
    ∙ ap (λ t. identity.is_declared (plain t)) c.in_ok-shape.ensures.shape
