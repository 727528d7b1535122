use Rattle.std.proofs.Common.{◌≡◌, ◌++◌, map, drop}
use Rattle.go_tree.specs.Tree.{tree_of, trees_of}
use Rattle.go_form.specs.Families.Nodes.{places_where}
use Rattle.go_form.specs.Families.SwitchStatements.{is_default_clause}
use Rattle.go_form.proofs.switch_statements.push_defaults.Given as goal

abbrev pub invariant-loop-node : goal.invariant-loop-node
invariant-loop-node l =
    l.found.items ++ places_where is_default_clause (trees_of (map tree_of (drop l.node-index l.nodes))) ≡ l.fn.found.items ++ places_where is_default_clause (trees_of (map tree_of l.nodes))
