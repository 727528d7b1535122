use Rattle.std.proofs.Common.{◌++◌, ap, map, ◌∙◌}
use Rattle.std.proofs.lemmas.Result.{on_ok_weaker}
use Rattle.go_term.specs.Shapes.{shape_tree}
use Rattle.go_model.specs.Obligations.Methods.{methods_in}
use Rattle.go_obligations.specs.Methods.{method_view}
use Rattle.go_obligations.proofs.MethodLemmas.{methods_kept}
use Rattle.go_obligations.proofs.methods.push_methods.Goals as goal

pub returns-clause-methods : goal.returns-clause-methods
returns-clause-methods g c =
    let seen = c.in_ok-shape.ensures in
    let before = map (method_view (g.F.Ask.tree c.args.judge.now)) c.args.methods.now.items in
    on_ok_weaker c.push_methods_at.result
    (λ h. h ∙ ap (λ vs. vs ++ methods_in (shape_tree (g.F.Ask.tree c.see.new.self) c.in_ok-shape.shape)) (methods_kept seen.keeps.kept c.args.methods.now.items c.requires.methods) ∙ ap (λ t. before ++ methods_in t) seen.shape)
    c.push_methods_at.ensures.methods
