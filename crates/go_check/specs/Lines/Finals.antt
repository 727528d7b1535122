-- Final types in a table of the program.
use Rattle.std.specs.Prelude.{Option}
use Rattle.std.specs.Map.{lookup}
use Rattle.std.specs.Option.{option_map}
use Rattle.go_tree.specs.declared.node.NodeId.{NodeId}
use Rattle.go_term.specs.Types.{TypeData}
use Rattle.go_term.specs.View.{type_of}
use Rattle.go_module.specs.Scopes.{same_node}
use Rattle.go_check.specs.declared.finals.Finals.{Finals}

abbrev pub final_in : Finals → NodeId → Option TypeData
final_in finals id = option_map type_of (lookup (same_node id) finals.table.entries)
