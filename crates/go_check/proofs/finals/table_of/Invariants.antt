use Rattle.std.proofs.Common.{◌≡◌, vec_len}
use Rattle.std.specs.Map.{lookup}
use Rattle.std.specs.Option.{option_or}
use Rattle.go_tree.specs.declared.node.NodeId.{NodeId}
use Rattle.go_term.specs.View.{type_of}
use Rattle.go_module.specs.Scopes.{same_node}
use Rattle.go_final.specs.Ends.{finals_as}
use Rattle.go_check.specs.Lines.Finals.{final_in}
use Rattle.go_check.proofs.finals.table_of.Given as goal

abbrev pub decreases-loop-id : goal.decreases-loop-id
decreases-loop-id l = vec_len l.list

-- what is left of the list, and behind it the table, has of each number what the whole list has
abbrev pub invariant-loop-id : goal.invariant-loop-id
invariant-loop-id l = (id : NodeId) → option_or (lookup (same_node id) (finals_as type_of l.list.items)) (final_in l.finals id) ≡ lookup (same_node id) (finals_as type_of l.fn.list.items)
