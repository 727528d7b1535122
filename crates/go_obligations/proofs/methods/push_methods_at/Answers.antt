use Rattle.std.proofs.Common.{◌++◌, ap, map, sym, subst, ◌∙◌}
use Rattle.std.specs.List.{AllByRecursion, flat_map}
use Rattle.std.proofs.lemmas.Result.{on_ok_weaker}
use Rattle.go_term.specs.Shapes.{elem_tree}
use Rattle.go_model.specs.Obligations.Methods.{method_in}
use Rattle.go_judge.specs.Types.Own.{IsOwnElem}
use Rattle.go_obligations.specs.Methods.{method_view}
use Rattle.go_obligations.proofs.MethodLemmas.{elements_owned, methods_in_shape}
use Rattle.go_obligations.proofs.methods.push_methods_at.Goals as goal

pub push_each-requires-clause-own : goal.push_each-requires-clause-own
push_each-requires-clause-own g c =
    subst (AllByRecursion (IsOwnElem (g.F.Ask.is_type c.args.judge.now))) (sym c.elements_in.ensures) (elements_owned (g.F.Ask.is_type c.args.judge.now) c.args.shape c.requires.own)

pub returns-clause-methods : goal.returns-clause-methods
returns-clause-methods g c =
    let tree = g.F.Ask.tree c.args.judge.now in
    let before = map (method_view tree) c.args.methods.now.items in
    on_ok_weaker c.push_each.result
    (λ h. h ∙ ap (λ es. before ++ flat_map method_in (map (elem_tree tree) es)) c.elements_in.ensures ∙ ap (λ ms. before ++ ms) (methods_in_shape tree c.args.shape))
    c.push_each.ensures.methods
