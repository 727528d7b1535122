use Rattle.std.proofs.Common.{[], ◌∷◌, ◌++◌, ap, map, ◌∙◌}
use Rattle.go_obligations.specs.Methods.{method_view, parts_in}
use Rattle.go_obligations.proofs.MethodLemmas.{view_pushed}
use Rattle.go_obligations.proofs.methods.push_method.Goals as goal

pub returns-clause-methods : goal.returns-clause-methods
returns-clause-methods g c =
    let views = map (method_view (g.F.Ask.tree c.args.judge.now)) c.args.methods.now.items in
    ap (map (method_view (g.F.Ask.tree c.made_type.new.judge))) c.in_ok-push.ensures.items
    ∙ view_pushed c.in_ok-signature.ensures.keeps.kept c.args.methods.now.items _ c.requires.methods
    ∙ ap (λ t. views ++ record {
      head = record { object = c.args.object; name = c.args.name; «package» = c.args.package; variadic = c.args.signature.variadic };
      parts = parts_in t;
    } ∷ []) c.in_ok-signature.ensures.made
