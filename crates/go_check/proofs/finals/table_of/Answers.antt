use Rattle.std.proofs.Common.{List, ap, ◌∙◌}
use Rattle.std.specs.Map.{lookup}
use Rattle.std.specs.Option.{option_map, option_or}
use Rattle.go_tree.specs.declared.node.NodeId.{NodeId}
use Rattle.go_module.specs.Scopes.{same_node}
use Rattle.go_term.specs.declared.term.Term.{Term}
use Rattle.go_term.specs.View.{type_of}
use Rattle.go_final.specs.Ends.{finals_as}
use Rattle.go_check.proofs.FinalTableLemmas.{one_moved}
use Rattle.go_check.proofs.finals.table_of.Goals as goal

pub loop-id-preserved : goal.loop-id-preserved
loop-id-preserved c = λ id.
    let left = c.pop.new.self.items in
    let whole = lookup (same_node id) (finals_as type_of c.args.list.items) in
    ap (λ (entries : List (NodeId × Term)). option_or (lookup (same_node id) (finals_as type_of left)) (option_map type_of (lookup (same_node id) entries))) c.in_ok-put.ensures
    ∙ one_moved id c.loop-id.finals.table.entries c.loop-id.list.items left c.in-Some.id c.in-Some.ty whole c.in-Some.ensures.items (c.loop-id.invariant id)
