use Rattle.std.proofs.Common.{map, sym, ap, subst, ◌∙◌}
use Rattle.std.proofs.lemmas.Result.{IfOk-weaker}
use Rattle.std.specs.List.{AllByRecursion}
use Rattle.go_model.specs.Obligations.Embedded.{embedded_in}
use Rattle.go_obligations.proofs.LayerLemmas.{types-embedded, types-owned}
use Rattle.go_obligations.proofs.embedded.types_of.Goals as goal

pub returns-clause-own : goal.returns-clause-own
returns-clause-own g c =
    let own = g.F.Ask.is_type c.see.new.self in
    IfOk-weaker c.types_in.result _ _ (λ types e. subst (AllByRecursion own) (sym e) (types-owned own c.in_ok-shape.shape c.in_ok-shape.ensures.own)) c.types_in.ensures

pub returns-clause-types : goal.returns-clause-types
returns-clause-types g c =
    let tree = g.F.Ask.tree c.see.new.self in
    IfOk-weaker c.types_in.result _ _ (λ types e. ap (map tree) e ∙ types-embedded tree c.in_ok-shape.shape ∙ ap embedded_in c.in_ok-shape.ensures.shape) c.types_in.ensures
