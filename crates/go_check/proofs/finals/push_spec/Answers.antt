use Rattle.std.proofs.Common.{◌≡◌, ◌++◌, None, append_assoc, map, sym, ap, ◌∙◌, subst}
use Rattle.std.specs.List.{flat_map}
use Rattle.std.proofs.lemmas.Grind.{flat_map-append}
use Rattle.std.proofs.lemmas.Result.{on_ok_weaker}
use Rattle.go_tree.specs.Tree.{tree_of}
use Rattle.go_term.specs.View.{type_of}
use Rattle.go_judge.specs.Headers.{Headers}
use Rattle.go_judge.specs.HeadersView.{headers_view}
use Rattle.go_expr.specs.Read.{outcome_read}
use Rattle.go_expr.specs.Walker.{outcomes_view}
use Rattle.go_final.specs.Ends.{finals_as}
use Rattle.go_report.specs.Finals.Nodes.{Finals, finals_by}
use Rattle.go_check.proofs.finals.push_spec.Goals as goal

pub returns-clause-finals : goal.returns-clause-finals
returns-clause-finals c =
    let read = outcome_read (outcomes_view c.args.walker.now) in
    let each = finals_by (headers_view c.args.judge.now.headers) read None in
    let types = map tree_of c.args.spec.now.types.now in
    let values = map tree_of c.args.spec.now.values.now in
    let old = finals_as type_of c.args.list.now.items in
    let inside = finals_as type_of c.push_nodes.new.list.items in
    let new = finals_as type_of c.push_nodes-2.new.list.items in
    on_ok_weaker c.push_nodes-2.result
    (λ (told : new ≡ inside ++ flat_map (finals_by (headers_view c.push_nodes.new.judge.headers) read None) values).
    let found : new ≡ inside ++ flat_map each values =
    subst (λ (known : Headers). new ≡ inside ++ flat_map (finals_by known read None) values) c.push_nodes.ensures.headers told in
    found
    ∙ ap (λ (front : Finals). front ++ flat_map each values) c.in_ok-push_nodes.ensures.finals
    ∙ append_assoc old (flat_map each types) (flat_map each values)
    ∙ ap (λ (behind : Finals). old ++ behind) (sym (flat_map-append each types values)))
    c.push_nodes-2.ensures.finals
