use Rattle.std.proofs.Common.{◌++◌, ap, map, sym}
use Rattle.std.specs.List.{flat_map}
use Rattle.std.proofs.lemmas.Grind.{flat_map-append}
use Rattle.indexmap.proofs.MapLemmas.{OnOk-map}
use Rattle.go_tree.specs.Tree.{tree_of}
use Rattle.go_operands.specs.Operands.{expressions_in}
use Rattle.go_expr.proofs.WalkerLemmas.{walked_more}
use Rattle.go_decl.proofs.walked.walk_parts.Goals as goal

pub returns-clause-reached : goal.returns-clause-reached
returns-clause-reached g c =
    let types = map tree_of c.args.types.now in
    let values = map tree_of c.args.values.now in
    OnOk-map c.walk_nodes-2.result _ _
    (λ now.
    walked_more (g.W.Ask.names c.args.walks.now) (g.W.Ask.names c.walk_nodes.new.walks) (g.W.Ask.headers c.args.walks.now) (g.W.Ask.headers c.walk_nodes.new.walks)
    (flat_map expressions_in types) (flat_map expressions_in values) (flat_map expressions_in (types ++ values))
    (g.W.Ask.outcomes c.args.walks.now) (g.W.Ask.outcomes c.walk_nodes.new.walks) (g.W.Ask.outcomes c.walk_nodes-2.new.walks)
    c.walk_nodes.ensures.names c.walk_nodes.ensures.same (sym (flat_map-append expressions_in types values)) c.in_ok-walk_nodes.ensures.reached now)
    c.walk_nodes-2.ensures.reached
