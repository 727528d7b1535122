use Rattle.std.proofs.Common.{Some, ap, ◌∙◌}
use Rattle.go_term.specs.Types.{TypeData}
use Rattle.go_judge.specs.Quests.{Decided}
use Rattle.go_constructs.specs.Operators.Sorts.{sort_found}
use Rattle.go_ops.proofs.sorts.sort_of_type.Goals as goal

pub returns-clause-sort : goal.returns-clause-sort
returns-clause-sort g c =
    ap Decided (c.sort_of_shape.ensures (g.F.Ask.tree c.see.new.self) ∙ ap (λ (u : TypeData). sort_found (Some u)) c.in_ok-shape.ensures.shape)
