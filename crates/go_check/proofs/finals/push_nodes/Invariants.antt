use Rattle.std.proofs.Common.{◌≡◌, ◌++◌, None, drop, map}
use Rattle.std.specs.List.{flat_map}
use Rattle.go_tree.specs.Tree.{tree_of}
use Rattle.go_term.specs.View.{type_of}
use Rattle.go_judge.specs.HeadersView.{headers_view}
use Rattle.go_expr.specs.Read.{outcome_read}
use Rattle.go_expr.specs.Walker.{outcomes_view}
use Rattle.go_final.specs.Ends.{finals_as}
use Rattle.go_report.specs.Finals.Nodes.{finals_by}
use Rattle.go_check.specs.Packages.Book.{standing_of}
use Rattle.go_check.proofs.finals.push_nodes.Given as goal

-- what is pushed, with the final types in the nodes left, are those in all nodes; the judge stays as it is
abbrev pub invariant-loop-node : goal.invariant-loop-node
invariant-loop-node l =
    let each = finals_by (headers_view l.fn.judge.headers) (outcome_read (outcomes_view l.walker)) None in
    record {
      finals : finals_as type_of l.list.items ++ flat_map each (map tree_of (drop l.node-index l.nodes)) ≡ finals_as type_of l.fn.list.items ++ flat_map each (map tree_of l.nodes);
      headers : headers_view l.judge.headers ≡ headers_view l.fn.judge.headers;
      standing : standing_of l.judge ≡ standing_of l.fn.judge;
    }
