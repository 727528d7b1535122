use Rattle.std.proofs.Common.{◌∙◌, ap, refl, sym}
use Rattle.go_graph.specs.Graph.{is_marked}
use Rattle.go_graph.proofs.MarkLemmas.{set_extends}
use Rattle.go_graph.proofs.reach.Search.mark.Goals as goal

pub returns-in_ok-push-clause-extends : goal.returns-in_ok-push-clause-extends
returns-in_ok-push-clause-extends c =
    let unset = ap (λ ms. is_marked ms c.args.vertex) (sym c.deref.ensures.value) ∙ sym c.is_marked.ensures ∙ c.if-not-is_marked.true in
    set_extends c.args.self.now _ c.args.vertex c.requires unset refl c.in_ok-push.ensures.items
