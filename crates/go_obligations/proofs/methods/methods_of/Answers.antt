use Rattle.std.proofs.Common.{ap, map, ◌∙◌}
use Rattle.std.specs.List.{flat_map}
use Rattle.std.proofs.lemmas.Result.{IfOk-weaker}
use Rattle.go_model.specs.Obligations.Methods.{methods_in}
use Rattle.go_obligations.specs.Methods.{method_view}
use Rattle.go_obligations.proofs.MethodLemmas.{gets_exactly}
use Rattle.go_obligations.proofs.methods.methods_of.Goals as goal

pub returns-clause-exact : goal.returns-clause-exact
returns-clause-exact g c =
    let judge = c.args.judge.now in
    let tree = g.F.Ask.tree c.embedded_types.new.judge in
    IfOk-weaker c.methods_of_all.result _ _
    (λ methods views m. gets_exactly (g.F.Ask.headers judge) (g.F.Ask.tree judge c.args.t) (map tree c.in_ok-parts.parts.items) c.in_ok-parts.ensures.exact m
    (map (method_view (g.F.Ask.tree c.methods_of_all.new.judge)) methods.items) (views ∙ ap (λ ts. flat_map methods_in (map tree ts)) c.deref.ensures.value))
    c.methods_of_all.ensures.methods
