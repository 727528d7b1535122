use Rattle.std.proofs.Common.{◌≡◌, ◌++◌, None, map, ◌∙◌, subst, arith}
use Rattle.std.specs.List.{flat_map}
use Rattle.go_tree.specs.Tree.{tree_of}
use Rattle.go_term.specs.View.{type_of}
use Rattle.go_judge.specs.Headers.{Headers}
use Rattle.go_judge.specs.HeadersView.{headers_view}
use Rattle.go_expr.specs.Read.{outcome_read}
use Rattle.go_expr.specs.Walker.{outcomes_view}
use Rattle.go_final.specs.Ends.{finals_as}
use Rattle.go_report.specs.Finals.Nodes.{finals_by}
use Rattle.go_decl.proofs.ListLemmas.{drop-step, one_more}
use Rattle.go_check.proofs.finals.push_nodes.Goals as goal

pub loop-node-preserved : goal.loop-node-preserved
loop-node-preserved c =
    let inv = c.loop-node.invariant in
    let place = c.loop-node.node-index in
    let nodes = c.args.nodes.now in
    let node = c.node-item.result in
    let read = outcome_read (outcomes_view c.args.walker.now) in
    let each = finals_by (headers_view c.args.judge.now.headers) read None in
    let old = finals_as type_of c.loop-node.list.items in
    let new = finals_as type_of c.push_node.new.list.items in
    let whole = finals_as type_of c.args.list.now.items ++ flat_map each (map tree_of nodes) in
    let found : new ≡ old ++ each (tree_of node) =
    subst (λ (known : Headers). new ≡ old ++ finals_by known read None (tree_of node)) inv.headers c.in_ok-push_node.ensures.finals in
    record {
      finals = one_more each tree_of nodes place node old new whole (drop-step nodes place node (omega arith) c.node-item.is) found inv.finals;
      headers = c.push_node.ensures.headers ∙ inv.headers;
      standing = c.push_node.ensures.standing ∙ inv.standing;
    }
